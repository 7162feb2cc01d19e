-- The devices hold nothing and never fail, so the seats are refused only where memory ran out.
use Rattle.std.proofs.Common.{ap}
use Rattle.std.proofs.lemmas.Result.{IfOk-weaker}
use Rattle.rp_live.proofs.Seating.{memory_never, only_memory}
use Rattle.rp_live.proofs.starts.seats_in_memory.Goals as goal

pub returns-clause-seats : goal.returns-clause-seats
returns-clause-seats g c = IfOk-weaker c.seats.result _ _ (λ all is. (_, is)) c.seats.ensures.opened

pub returns-clause-only : goal.returns-clause-only
returns-clause-only g c =
    let devices = c.in_ok-devices.ensures in
    only_memory c.seats.result (λ bad. c.seats.ensures.refused.0 bad (c.requires, devices.count, λ k d less. ap (λ disk. disk.contents) (devices.empty k d less)))
    (λ device. memory_never (c.seats.ensures.device device)) c.seats.ensures.only
