-- The node is one of the cluster, and the task waits.
use Rattle.std.proofs.Common.{Option, Ok, Err, refl, ap, ◌∙◌}
use Rattle.std.specs.Prelude.{nat_lt}
use Rattle.std.proofs.lemmas.Bool.{cond-false}
use Rattle.rp_base.specs.declared.action.Action.{Action}
use Rattle.rp_base.specs.declared.fault.Fault.TheVariants.{BadConfig}
use Rattle.rp_model.specs.Parts.{TaskPart}
use Rattle.rp_model.specs.Tasks as tasks
use Rattle.rp_model.specs.Tasks.{asks_again}
use Rattle.rp_model.specs.World.{task_takes, task_done_if}
use Rattle.rp_possible.proofs.Parts.{put_there}
use Rattle.rp_possible.proofs.Tests.{not_below}
use Rattle.rp_possible.proofs.tasks.a_task_asks_again.Goals as goal

pub returns : goal.returns
returns g c = λ setting w task node part call here waits within.
    let effect = ap (λ (o : Option TaskPart). task_takes setting.config w task (tasks.Again node) o) here
    ∙ ap (task_done_if w task) (cond-false (nat_lt setting.config.nodes node) (Err BadConfig) (Ok (asks_again task node part part.outstanding)) (not_below setting.config.nodes node within))
    ∙ ap (λ (o : Option Action). task_done_if w task (Ok (asks_again task node part o))) waits in
    (_, effect, refl, refl, put_there w.tasks task part part here)
