use Rattle.std.proofs.Common.{◌≡◌, ℕ, subst}
use Rattle.rp_model.specs.rp_codec.specs.Text.{text_of}
use Rattle.rp_model.specs.rp_codec.specs.declared.packet.Body.TheVariants.{Decided}
use Rattle.rp_model.specs.Says.{says}
use Rattle.rp_outbox.proofs.Placed.{decided_is_packet}
use Rattle.rp_outbox.proofs.outbox.Outbox.inform_others_by.Goals as goal

pub put_to_others-requires-clause-packet : goal.put_to_others-requires-clause-packet
put_to_others-requires-clause-packet c =
    let d = c.args.decision.now in
    let body = Decided d.position d.action in (
      body,
      (
        decided_is_packet d.from d.position d.action c.get.ensures.in_range c.get-2.ensures.in_range c.requires.right,
        subst (λ (to : ℕ). c.decided_by.result ≡ text_of (says d.from body to)) c.requires.itself (c.decided_by.ensures.decision c.requires.tail),
      ),
    )

pub returns-clause-sent : goal.returns-clause-sent
returns-clause-sent c =
    let d = c.args.decision.now in
    let body = Decided d.position d.action in
    c.put_to_others.ensures.sent body (
      decided_is_packet d.from d.position d.action c.get.ensures.in_range c.get-2.ensures.in_range c.requires.right,
      subst (λ (to : ℕ). c.decided_by.result ≡ text_of (says d.from body to)) c.requires.itself (c.decided_by.ensures.decision c.requires.tail),
    )
