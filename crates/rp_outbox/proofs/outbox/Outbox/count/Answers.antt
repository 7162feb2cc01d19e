use Rattle.std.proofs.Common.{◌≡◌, length, take, ap, arith}
use Rattle.rp_outbox.specs.Packets.{Sending, packets_in}
use Rattle.rp_outbox.proofs.Joined.{run_again}
use Rattle.rp_outbox.proofs.outbox.Outbox.count.Goals as goal

pub returns-clause-value : goal.returns-clause-value
returns-clause-value c =
    let all : length (packets_in (length c.self.inside.ends.items) (take c.self.inside.used c.self.inside.bytes.items)) ≡ length c.args.self.now.sent = ap (λ (s : Sending). length s.sent) c.self.view_is in
    omega (arith, all, (run_again (take c.self.inside.used c.self.inside.bytes.items) c.self.inside.ends.items c.self.invariant.1).2, c.len.ensures, c.self.inside.ends.ok.0)
