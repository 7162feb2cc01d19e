use Rattle.std.proofs.Common.{◌≡◌, ◌<◌, List, length, refl, sym, ◌∙◌, arith}
use Rattle.std.proofs.lemmas.Bool.{eqb-true}
use Rattle.std.proofs.lemmas.Option.{slice_get_read}
use Rattle.rp_base.specs.Proposals.{Proposal}
use Rattle.rp_proposer.proofs.Rising.{found_there}
use Rattle.rp_proposer.proofs.proposer.index_later.Goals as goal

pub returns-then-eq : goal.returns-then-eq
returns-then-eq c =
    let items : List Proposal = c.args.proposals.now.items in
    let p : Proposal = c.index-then-in_row-len.result.now in
    let within : c.from-in_row.result < length items = omega (arith, c.if-in_row-len.true, c.len.ensures, c.args.proposals.now.ok.0) in
    let at = slice_get_read items (length items) c.from-in_row.result p refl within c.index-then-in_row-len.ensures in
    let here : p.position ≡ c.args.position = sym c.position-then-in_row-len.ensures ∙ eqb-true c.position-then-in_row-len.result c.args.position (sym c.eq.ensures ∙ c.if-eq.true) in
    sym (found_there items c.from-in_row.result c.args.position p at here c.requires.apart)
