-- Each part of the seat crosses.
use denote.Param.Send.{sendable}
use Rattle.std.proofs.Crossing.{crosses}
use Rattle.rp_threads.proofs.Crossings.{task_seat_send}
use Rattle.rp_threads.proofs.crossing.task_seat_crosses.Goals as goal

pub crossing-requires-send-T : goal.crossing-requires-send-T
crossing-requires-send-T g c κs within = search (crosses, sendable, task_seat_send) depth 16
