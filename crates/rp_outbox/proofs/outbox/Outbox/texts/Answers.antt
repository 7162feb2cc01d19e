use Rattle.std.proofs.Common.{take, ap, ◌∙◌}
use Rattle.rp_outbox.specs.Packets.{Sending, texts_of}
use Rattle.rp_outbox.proofs.Joined.{run_again}
use Rattle.rp_outbox.proofs.outbox.Outbox.texts.Goals as goal

pub returns : goal.returns
returns c =
    c.split_at.ensures.front
    ∙ ap (take c.self.inside.used) c.deref.ensures.value
    ∙ (run_again (take c.self.inside.used c.self.inside.bytes.items) c.self.inside.ends.items c.self.invariant.1).1
    ∙ ap (λ (s : Sending). texts_of s.sent) c.self.view_is
