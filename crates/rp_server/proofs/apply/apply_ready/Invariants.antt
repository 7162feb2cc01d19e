use Rattle.std.proofs.Common.{◌≡◌, ◌-◌, length}
use Rattle.rp_server.proofs.apply.apply_ready.Given as goal

abbrev pub invariant-loop-answers : goal.invariant-loop-answers
invariant-loop-answers g l =
    (l.machine.actions ≡ l.log.taken) × (l.machine.begin ≡ l.fn.machine.begin) × (l.log.places ≡ l.fn.log.places)

abbrev pub decreases-loop-answers : goal.decreases-loop-answers
decreases-loop-answers g l = 65536 - length l.log.taken
