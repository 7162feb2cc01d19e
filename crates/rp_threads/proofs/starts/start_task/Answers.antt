-- The seat, the calls and the line cross to the thread, and the end crosses back.
use denote.Param.Send.{sendable}
use Rattle.std.proofs.Crossing.{crosses}
use Rattle.rp_threads.proofs.Crossings.{five_send, task_seat_send, task_call_send, line_send, options_send, task_end_send}
use Rattle.rp_threads.proofs.starts.start_task.Goals as goal

pub spawn_with-requires-send-F : goal.spawn_with-requires-send-F
spawn_with-requires-send-F g c κs within = search (five_send, crosses, sendable, task_seat_send, task_call_send, line_send, options_send) depth 20

pub spawn_with-requires-send-T : goal.spawn_with-requires-send-T
spawn_with-requires-send-T g c κs within = search (crosses, sendable, task_end_send) depth 16
