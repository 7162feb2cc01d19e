use denote.Param.Send.{sendable}
use Rattle.std.proofs.Crossing.{crosses}
use Rattle.rp_live_run.proofs.Crossings.{objects_send}
use Rattle.rp_live_run.proofs.live_run.live_objects.Goals as goal

pub live-requires-send-M : goal.live-requires-send-M
live-requires-send-M g c κs within = search (crosses, sendable, objects_send) depth 16
