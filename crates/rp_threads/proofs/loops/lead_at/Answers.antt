-- The event is that of the word to lead there.
use Rattle.std.proofs.Common.{refl}
use Rattle.rp_threads.proofs.loops.lead_at.Goals as goal

pub returns-clause-ok : goal.returns-clause-ok
returns-clause-ok g c =
    let e = c.in_ok-packets.ensures.ok in
    (refl, record { input = e.input; is = (c.args.position, c.requires, e.is); stepped = e.stepped; sent = e.sent; turn = e.turn; stated = e.stated; offered = e.offered; alone = e.alone })
