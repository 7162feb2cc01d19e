use Rattle.std.proofs.Common.{◌∙◌, ℕ, List, Bor, ap}
use Rattle.std.specs.Prelude.{option_map}
use Rattle.rp_words.proofs.TablesLemmas.{first_found}
use Rattle.rp_words.proofs.words.named.Goals as goal

pub returns-in_err-row : goal.returns-in_err-row
returns-in_err-row g c =
    c.from_residual.ensures ∙ ap (option_map (λ (row : Bor (List ℕ) × g.row.T.Denot). row.1)) c.in_err-row.ensures
    ∙ first_found (λ (row : Bor (List ℕ) × g.row.T.Denot). row.0.now) (λ row. row.1) c.args.word.now c.args.table.now

pub returns : goal.returns
returns g c =
    ap (option_map (λ (row : Bor (List ℕ) × g.row.T.Denot). row.1)) c.in_ok-row.ensures
    ∙ first_found (λ (row : Bor (List ℕ) × g.row.T.Denot). row.0.now) (λ row. row.1) c.args.word.now c.args.table.now
