-- The calls of a task that count in the order of a run.
use Rattle.std.specs.Prelude.{◌≡◌, ◌⊎◌, ℕ, suc, List, [], ◌∷◌, length}
use Rattle.rp_threads.specs.rp_base.specs.declared.action.Action.{Action}
use Rattle.rp_boxes.specs.rp_agreement.specs.Answered.{calls_by}
use Rattle.rp_boxes.specs.rp_agreement.specs.Order.{IsPrefix}
use Rattle.rp_threads.specs.Tasks.{call_after}
use Rattle.rp_threads.specs.declared.tasks.TaskCall.{TaskCall}

-- these calls, as nodes know them, of a task that made n before
abbrev pub calls_from : ℕ → ℕ → List TaskCall → List Action
calls_from task made [] = []
calls_from task made (call ∷ calls) = call_after task made call ∷ calls_from task (suc made) calls

-- The calls of a task that count are the first of its calls, in order: as many as it made, or all
-- but the last of them.
pub record CountsCalls (task : ℕ) (calls : List TaskCall) (made : ℕ) (counted : List Action)
    : Type 0 where
  pub first : IsPrefix (calls_by task counted) (calls_from task 0 calls)
  pub many : (length (calls_by task counted) ≡ made) ⊎ (suc (length (calls_by task counted)) ≡ made)
