-- By the cases of the input.
use Rattle.rp_agreement.proofs.TaskKeeping.{task_goes_on}
use Rattle.rp_agreement.proofs.replies.task_events_keep_replies.Goals as goal

pub returns : goal.returns
returns g c = λ s t input done node after task moved sent later kept is resulted stays moves. task_goes_on s t input done node task sent after moved later kept is resulted stays moves
