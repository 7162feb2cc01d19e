-- The task sends nothing but right calls of its own.
use Rattle.rp_agreement.proofs.TaskEffects.{if_task_done, task_keeps, task_sound}
use Rattle.rp_model.specs.Tasks.{task_effect}
use Rattle.rp_agreement.proofs.invariant.task_events_keep.Goals as goal

pub returns-clause-sound : goal.returns-clause-sound
returns-clause-sound c = λ config nodes t part input done node after sent later waits sound is resulted stays sends.
    let d = if_task_done t (task_effect config t part input) done (task_sound config sent t part input waits is) resulted in
    task_keeps nodes t done.sends node sent after later sound (record { calls = d.calls; stays = stays; sends = sends })

pub returns-clause-waits : goal.returns-clause-waits
returns-clause-waits c = λ config sent t part input done waits is resulted.
    (if_task_done t (task_effect config t part input) done (task_sound config sent t part input waits is) resulted).waits
