-- By the cases of an action.
use Rattle.rp_object.specs.Step.{objects_next, objects_answers, objects_waiting}
use Rattle.rp_object.proofs.MachineLaws.Accounting.{step_leaves, step_accounts}
use Rattle.rp_object.proofs.laws.actions_account_for_callers.Goals as goal

pub returns : goal.returns
returns c running action long each set = step_accounts (objects_waiting running) action (objects_answers running action) (objects_waiting (objects_next running action)) set (step_leaves running.program running.state action long each)
