use Rattle.std.proofs.Common.{◌≡◌, rules, sym, subst, FitsSigned, w64}
use Rattle.rp_model.specs.rp_base.specs.Right.{IsReply}
use Rattle.rp_model.specs.rp_base.specs.declared.reply.Reply.{Reply}
use Rattle.rp_model.specs.rp_codec.specs.Text.{text_of}
use Rattle.rp_model.specs.rp_codec.specs.declared.packet.Body.TheVariants.{Reply as Answered}
use Rattle.rp_model.specs.Says.{says_to_task}
use Rattle.rp_outbox.proofs.outbox.Outbox.reply.Goals as goal

pub put_short-requires-clause-packet : goal.put_short-requires-clause-packet
put_short-requires-clause-packet c =
    let me = c.args.me in
    let answer = c.args.answer.now in
    let fits : FitsSigned w64 c.in-Value.value = search rules in
    let reply : IsReply answer.reply = subst IsReply (sym c.in-Value.is) fits in (
      says_to_task me (Answered answer.number answer.reply) answer.task,
      (
        record { ranges = record { from = c.get.ensures.in_range; to = c.get-in-Value.ensures.in_range; body = reply }; rules = (tt, tt, c.requires.count) },
        subst (λ (r : Reply). c.value_reply_text.result ≡ text_of (says_to_task me (Answered answer.number r) answer.task)) (sym c.in-Value.is) c.value_reply_text.ensures,
      ),
    )
