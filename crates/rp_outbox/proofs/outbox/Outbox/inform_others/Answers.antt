use Rattle.std.proofs.Common.{◌≡◌, ℕ, subst}
use Rattle.rp_model.specs.rp_codec.specs.Text.{text_of}
use Rattle.rp_model.specs.rp_codec.specs.declared.packet.Body.TheVariants.{Decided}
use Rattle.rp_model.specs.Says.{says}
use Rattle.rp_outbox.proofs.Placed.{decided_is_packet}
use Rattle.rp_outbox.proofs.outbox.Outbox.inform_others.Goals as goal

pub put_to_others-requires-clause-packet : goal.put_to_others-requires-clause-packet
put_to_others-requires-clause-packet c =
    let d = c.args.decision.now in
    let body = Decided d.position d.action in (
      body,
      (
        decided_is_packet d.from d.position d.action c.get.ensures.in_range c.get-then-is_call.ensures.in_range c.requires.right,
        subst (λ (to : ℕ). c.decided_text.result ≡ text_of (says d.from body to)) c.requires.itself c.decided_text.ensures,
      ),
    )

pub returns-then-is_call-clause-sent : goal.returns-then-is_call-clause-sent
returns-then-is_call-clause-sent c =
    let d = c.args.decision.now in
    let body = Decided d.position d.action in
    c.put_to_others.ensures.sent body (
      decided_is_packet d.from d.position d.action c.get.ensures.in_range c.get-then-is_call.ensures.in_range c.requires.right,
      subst (λ (to : ℕ). c.decided_text.result ≡ text_of (says d.from body to)) c.requires.itself c.decided_text.ensures,
    )
