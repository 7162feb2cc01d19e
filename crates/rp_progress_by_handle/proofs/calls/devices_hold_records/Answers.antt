-- A node that is closed holds the records that it has in the world behind the installation.
use Rattle.rp_agreement.specs.Answered.{setting_for}
use Rattle.rp_progress_by_handle.proofs.Devices.{on_devices}
use Rattle.rp_progress_by_handle.proofs.calls.devices_hold_records.Goals as goal

pub returns : goal.returns
returns g c = λ config program moves now quorum right all are.
    let m = g.M.Machine in
    let s = setting_for m.next m.answers m.begin config program in
    on_devices s m.image (c.histories_keep_ranges.ensures config program) moves now right all quorum are.members
