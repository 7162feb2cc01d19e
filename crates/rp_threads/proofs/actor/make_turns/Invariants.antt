-- The turns so far were made, one after the other.
use Rattle.std.proofs.Common.{◌+◌}
use Rattle.rp_threads.specs.LoopTurns.{AreTurns}
use Rattle.rp_threads.proofs.actor.make_turns.Given as goal

abbrev pub invariant-loop-done : goal.invariant-loop-done
invariant-loop-done g l =
    let actor = g.A.Actor in
    record {
      ready : actor.ready (l.done + 1) l.actor;
      turned : AreTurns g.E.Ending.over actor.party actor.rested actor.turned l.fn.actor l.done l.actor;
    }
