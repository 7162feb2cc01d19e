use Rattle.std.proofs.Common.{arith}
use Rattle.rp_store.proofs.Calls.{cut_refused}
use Rattle.rp_store.proofs.store.trim.Goals as goal

pub returns-clause-kept : goal.returns-clause-kept
returns-clause-kept g c =
    let old = g.D.Device.disk c.args.device.now in
    cut_refused c.args.whole old _ c.cut.result (omega (arith, c.requires)) c.cut.ensures.faults c.cut.ensures.refused c.cut.ensures.failed
