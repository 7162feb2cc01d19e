-- A task sends its own right calls to nodes.
use Rattle.rp_model.specs.Tasks.{task_effect}
use Rattle.rp_agreement.proofs.RangeKeeping.{task_packets, input_nodes, for_nodes_if}
use Rattle.rp_agreement.proofs.TaskEffects.{if_task_done, task_sound}
use Rattle.rp_agreement.proofs.sends.tasks_send_right_packets.Goals as goal

pub returns : goal.returns
returns c = λ config t input part done sent waits is resulted m h.
    let own = if_task_done t (task_effect config t part input) done (task_sound config sent t part input waits is) resulted in
    (task_packets t done own (for_nodes_if (task_effect config t part input) done (input_nodes config sent t part input is) resulted) m h, (own.calls m h).0)
