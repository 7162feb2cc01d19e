use Rattle.std.proofs.Common.{ℕ, ◌<◌, get_or}
use Rattle.rp_object.specs.Program.{IsPriority}
use Rattle.rp_object.proofs.program.are_priorities.Given as goal

abbrev pub invariant-loop-priority : goal.invariant-loop-priority
invariant-loop-priority l = (k : ℕ) → k < l.priority-index → (d : ℕ) → IsPriority (get_or l.priorities k d)
