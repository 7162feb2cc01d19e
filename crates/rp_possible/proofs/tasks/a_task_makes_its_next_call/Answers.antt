-- The call is right, and neither a call that waits nor the last number refuses it.
use Rattle.std.proofs.Common.{◌≡◌, suc, true, ◌||◌, not, Option, None, Result, Ok, Err, length, refl, ap, ◌∙◌, le-leb}
use Rattle.std.specs.Prelude.{nat_lt}
use Rattle.std.proofs.lemmas.Bool.{cond-false, and_from, or_from, not_from_true}
use Rattle.rp_base.specs.Action.{IsRightOperation, is_right, is_right_operation}
use Rattle.rp_base.specs.Calls.{are_exhausted}
use Rattle.rp_base.specs.declared.action.Action.{Action}
use Rattle.rp_base.specs.declared.action.Action.TheVariants.{Call}
use Rattle.rp_base.specs.declared.action.Operation.{Operation}
use Rattle.rp_base.specs.declared.action.Operation.TheVariants.{Function, Procedure, Entry, SetTimer, CancelTimer}
use Rattle.rp_base.specs.declared.fault.Fault.{Fault}
use Rattle.rp_base.specs.declared.fault.Fault.TheVariants.{NumbersSpent, BadConfig}
use Rattle.rp_model.specs.Parts.{TaskPart}
use Rattle.rp_model.specs.Tasks as tasks
use Rattle.rp_model.specs.Tasks.{may_call, calls_if}
use Rattle.rp_model.specs.World.{task_takes, task_done_if}
use Rattle.rp_possible.proofs.Parts.{put_there}
use Rattle.rp_possible.proofs.Tests.{up_to, not_below, not_exhausted}
use Rattle.rp_possible.proofs.tasks.a_task_makes_its_next_call.Goals as goal

operation_is_right : (operation : Operation) → IsRightOperation operation → is_right_operation operation ≡ true
operation_is_right (Function index) right = up_to 8 index right.0 right.1
operation_is_right (Procedure index) right = up_to 8 index right.0 right.1
operation_is_right (Entry index) right = up_to 4 index right.0 right.1
operation_is_right (SetTimer index) right = up_to 8 index right.0 right.1
operation_is_right (CancelTimer index) right = up_to 8 index right.0 right.1

pub returns : goal.returns
returns g c = λ setting w task node object operation arg part here idle within right.
    let n = length part.replies in
    let call : Action = Call task (suc n) object operation arg in
    let tests : is_right call ≡ true =
    and_from _ _ (and_from _ _ (and_from _ _ (up_to 8 task right.0.0 right.0.1) (le-leb 1 (suc n) right.1.0)) (up_to 8 object right.2.0 right.2.1)) (operation_is_right operation right.3) in
    let may : may_call setting.config node part call None ≡ Ok call =
    cond-false (are_exhausted n) (Err NumbersSpent) _ (not_exhausted n right.1.1)
    ∙ cond-false (nat_lt setting.config.nodes node || not (is_right call)) (Err BadConfig) (Ok call) (or_from _ _ (not_below setting.config.nodes node within) (not_from_true _ tests)) in
    let effect = ap (λ (o : Option TaskPart). task_takes setting.config w task (tasks.Submit node object operation arg) o) here
    ∙ ap (λ (waits : Option Action). task_done_if w task (calls_if task node part (may_call setting.config node part call waits))) idle
    ∙ ap (λ (r : Result Action Fault). task_done_if w task (calls_if task node part r)) may in
    (_, effect, refl, refl, put_there w.tasks task part _ here)
