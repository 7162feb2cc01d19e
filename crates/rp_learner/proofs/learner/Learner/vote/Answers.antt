-- What holds at a position of the window goes by its place, and by those who cast this vote, this one included.
use Rattle.std.proofs.Common.{◌∙◌, sym}
use Rattle.rp_learner.specs.Status.{vote_for}
use Rattle.rp_learner.proofs.Outcomes.{status_here, offset_at}
use Rattle.rp_learner.proofs.learner.Learner.vote.Goals as goal

pub returns-in-Some-get : goal.returns-in-Some-get
returns-in-Some-get c =
    let l = c.self.inside in
    let i = c.args.position in
    let k = c.in-Some.offset in
    rw (← c.self.view_is)
    (c.status_with.ensures
    ∙ status_here l.nodes l.max_positions l.first l.places.items i k c.in-Some-get.place.now (offset_at l.first i k c.in-Some.ensures)
    c.self.invariant.2 (sym c.in-Some-get.ensures) c.args.from (vote_for c.args.ballot c.args.action.now))
