-- One vote of 3 nodes and more settles nothing, and a vote short of a majority is one more.
use Rattle.std.proofs.Common.{refl, sym, subst, arith}
use Rattle.rp_learner.specs.Place.{Heard, in_stage}
use Rattle.rp_learner.specs.declared.position_state.Stage.{Stage}
use Rattle.rp_learner.specs.Places.{NotesCast}
use Rattle.rp_learner.specs.Status.{vote_for}
use Rattle.rp_learner.proofs.Noting.{counts, first_counts}
use Rattle.rp_learner.proofs.position_state.PositionState.hear.Goals as goal

pub returns-in-Unheard-clause-ok : goal.returns-in-Unheard-clause-ok
returns-in-Unheard-clause-ok c =
    rw (← c.self.view_is, c.in-Unheard.is)
    (first_counts c.args.nodes (record { from = c.args.cast.from; vote = vote_for c.args.cast.ballot c.args.cast.action.now }) c.restart.new.self c.requires.nodes.0 c.restart.ensures)

pub returns-else-voters-from-clause-ok : goal.returns-else-voters-from-clause-ok
returns-else-voters-from-clause-ok c =
    rw (← c.self.view_is)
    (subst (λ (s : Stage). NotesCast c.args.nodes (in_stage s c.self.inside.votes) (record { from = c.args.cast.from; vote = vote_for c.args.cast.ballot c.args.cast.action.now }) (in_stage s c.hear.new.self)) (sym c.in-Heard.is)
    (counts c.args.nodes (Heard c.self.inside.votes) (record { from = c.args.cast.from; vote = vote_for c.args.cast.ballot c.args.cast.action.now }) (Heard c.hear.new.self) refl refl
    (omega (arith, c.if-voters-from.false, c.from.ensures, c.majority.ensures, c.in_ok-voters-in-Heard.ensures.voters)) c.in_ok-voters-in-Heard.ensures.ok))
