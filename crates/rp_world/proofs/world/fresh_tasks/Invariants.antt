use Rattle.std.proofs.Common.{◌≡◌, ◌+◌, ℕ, suc, length, slice_get}
use Rattle.std.specs.Prelude.{IfSome}
use Rattle.rp_model.specs.Parts.{fresh_task}
use Rattle.rp_actors.specs.Callers.{Caller}
use Rattle.rp_world.proofs.world.fresh_tasks.Given as goal

-- the tasks so far
abbrev pub invariant-loop-number : goal.invariant-loop-number
invariant-loop-number l = record {
  count : length l.tasks.items + 1 ≡ l.number;
  each : (place : ℕ) → IfSome (slice_get l.tasks.items place) (λ t. let fresh : Caller = record { task = suc place; part = fresh_task } in t ≡ fresh);
}
