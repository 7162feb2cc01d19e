use Rattle.std.proofs.Common.{◌≡◌, ◌-◌, Bool, true, false, not, length, Some, rules, ◌∙◌, sym}
use Rattle.std.specs.Prelude.{slice_get}
use Rattle.rp_deck_bodies.proofs.BodyLemmas.{turns}
use Rattle.rp_deck_bodies.proofs.statements.BodyDraft.may_turn.Goals as goal

negated : (none some : Bool) → some ≡ not none → none ≡ not some
negated true some is = cc
negated false some is = cc

pub returns-in-Some : goal.returns-in-Some
returns-in-Some c =
    let items = c.args.self.now.ifs.items in
    let here : slice_get items (length items - 1) ≡ Some c.in-Some.innermost.now = search rules in
    negated c.is_none.result _ c.is_none.ensures ∙ sym (turns items c.in-Some.innermost.now here)
