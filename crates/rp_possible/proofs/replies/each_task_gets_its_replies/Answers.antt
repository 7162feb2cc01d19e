-- By computing the result of each event.
use Rattle.rp_possible.proofs.Twice.{replied_twice}
use Rattle.rp_possible.proofs.replies.each_task_gets_its_replies.Goals as goal

pub returns : goal.returns
returns g c = λ next replies begin nodes leader task least most low high is_task. replied_twice next replies begin nodes leader task least most low high is_task
