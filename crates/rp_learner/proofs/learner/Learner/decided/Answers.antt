-- What a decision in the window is goes by its place.
use Rattle.std.proofs.Common.{◌∙◌, sym}
use Rattle.std.proofs.lemmas.Bool.{cond-true, cond-false}
use Rattle.rp_learner.specs.declared.learner.Decision.TheVariants.{Known, Learned}
use Rattle.rp_learner.specs.Places.{is_settled_in}
use Rattle.rp_learner.proofs.Outcomes.{decision_here, offset_at}
use Rattle.rp_learner.proofs.learner.Learner.decided.Goals as goal

pub returns-in-Some-get : goal.returns-in-Some-get
returns-in-Some-get c =
    let l = c.self.inside in
    let p = c.in-Some-get.place.now in
    rw (← c.self.view_is)
    (sym (decision_here l.nodes l.max_positions l.first l.places.items c.args.position c.in-Some.offset p (offset_at l.first c.args.position c.in-Some.offset c.in-Some.ensures)
    c.self.invariant.2 (sym c.in-Some-get.ensures) ∙ cond-true (is_settled_in p) Known Learned (sym c.is_settled.ensures ∙ c.if-is_settled.true)))

pub returns-in-Some-2 : goal.returns-in-Some-2
returns-in-Some-2 c =
    let l = c.self.inside in
    let p = c.in-Some-get.place.now in
    rw (← c.self.view_is)
    (sym (decision_here l.nodes l.max_positions l.first l.places.items c.args.position c.in-Some.offset p (offset_at l.first c.args.position c.in-Some.offset c.in-Some.ensures)
    c.self.invariant.2 (sym c.in-Some-get.ensures) ∙ cond-false (is_settled_in p) Known Learned (sym c.is_settled.ensures ∙ c.if-is_settled.false)))
