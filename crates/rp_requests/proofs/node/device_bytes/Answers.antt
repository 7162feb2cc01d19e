-- The device in memory holds what the replica's device holds.
use Rattle.std.proofs.Common.{ap, ◌∙◌}
use Rattle.rp_replica.specs.rp_store.specs.Disk.{Disk}
use Rattle.rp_requests.proofs.node.device_bytes.Goals as goal

pub returns : goal.returns
returns g c = c.contents.ensures ∙ ap (λ (disk : Disk). disk.contents) c.device.ensures
