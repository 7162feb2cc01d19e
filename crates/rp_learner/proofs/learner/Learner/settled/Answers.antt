-- The place of the position is settled.
use Rattle.std.proofs.Common.{sym}
use Rattle.rp_learner.proofs.Outcomes.{settles_here, offset_at}
use Rattle.rp_learner.proofs.learner.Learner.settled.Goals as goal

pub returns-clause-settled : goal.returns-clause-settled
returns-clause-settled c =
    let l = c.self.inside in
    rw (← c.self.view_is, c.settle.ensures)
    (settles_here l.nodes l.max_positions l.first l.places.items c.args.position c.in-Some.offset c.in-Some-get_mut.place.now (offset_at l.first c.args.position c.in-Some.offset c.in-Some.ensures)
    c.self.invariant.2 (sym c.in-Some-get_mut.ensures.value))
