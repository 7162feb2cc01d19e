use Rattle.std.proofs.Common.{ℕ, ◌<◌}
use Rattle.rp_entry.specs.Queue.{IsReady}
use Rattle.rp_entry.proofs.state.State.next_ready.Given as goal

abbrev pub invariant-loop-place : goal.invariant-loop-place
invariant-loop-place l = (other : ℕ) → other < l.place → ¬ IsReady l.operations.entries.items l.self other
