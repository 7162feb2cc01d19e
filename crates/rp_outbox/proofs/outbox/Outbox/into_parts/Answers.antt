use Rattle.std.proofs.Common.{take, ap, ◌∙◌}
use Rattle.rp_outbox.specs.Packets.{Sending, texts_of}
use Rattle.rp_outbox.proofs.Joined.{run_again}
use Rattle.rp_outbox.proofs.outbox.Outbox.into_parts.Goals as goal

pub returns-clause-bytes : goal.returns-clause-bytes
returns-clause-bytes c =
    c.truncate.ensures.items ∙ (run_again (take c.self.inside.used c.self.inside.bytes.items) c.self.inside.ends.items c.self.invariant.1).1 ∙ ap (λ (s : Sending). texts_of s.sent) c.self.view_is
