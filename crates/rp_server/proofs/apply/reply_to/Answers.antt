use Rattle.std.proofs.Common.{◌≡◌, ◌+◌, ◌*◌, ◌≤◌, [], ◌∷◌, ◌++◌, List, take, length, sym, ap, subst, ◌∙◌, arith, append_assoc}
use Rattle.std.proofs.lemmas.List.{length-append}
use Rattle.rp_model.specs.rp_codec.specs.Message.{Message}
use Rattle.rp_model.specs.rp_codec.specs.declared.packet.Body.TheVariants.{Reply}
use Rattle.rp_model.specs.Says.{says_to_task}
use Rattle.rp_model.specs.Pending.{replies_to}
use Rattle.rp_model.proofs.Replying.{replies_one_more, replies_no_more}
use Rattle.rp_outbox.specs.Packets.{Sending}
use Rattle.rp_server.proofs.Replying.{first_replies}
use Rattle.rp_server.proofs.apply.reply_to.Goals.{then-awaits, else-awaits}
use Rattle.rp_server.proofs.apply.reply_to.Goals as goal

pub reply-requires-clause-room : goal.reply-requires-clause-room
reply-requires-clause-room c =
    let me = c.args.me in
    let pending = c.args.pending.now in
    let given = c.args.answers.now in
    let i = c.loop-answer.answer-index in
    let answer = c.answer-item.result in
    let reply = says_to_task me (Reply answer.number answer.reply) answer.task in
    let more : replies_to me pending (take i given) ++ reply ∷ [] ≡ replies_to me pending (take (i + 1) given) =
    replies_one_more me pending given i answer c.loop-answer-test.true c.answer-item.is (sym c.awaits.ensures.value ∙ c.if-awaits.true) in
    let long : length (replies_to me pending (take i given)) + 1 ≡ length (replies_to me pending (take (i + 1) given)) =
    sym (length-append (replies_to me pending (take i given)) (reply ∷ [])) ∙ ap length more in
    omega (arith, long, first_replies me pending given (i + 1), c.requires, c.loop-answer.invariant.1)

pub loop-answer-preserved : goal.loop-answer-preserved
loop-answer-preserved c =
    let me = c.args.me in
    let pending = c.args.pending.now in
    let given = c.args.answers.now in
    let i = c.loop-answer.answer-index in
    let answer = c.answer-item.result in
    let start = c.args.out.now.sent in
    let reply = says_to_task me (Reply answer.number answer.reply) answer.task in
    elim c.if-awaits.branch [
      | then-awaits w ↦
          let more : replies_to me pending (take i given) ++ reply ∷ [] ≡ replies_to me pending (take (i + 1) given) =
          replies_one_more me pending given i answer c.loop-answer-test.true c.answer-item.is (sym c.awaits.ensures.value ∙ w.if-awaits.true) in
          let long : length (replies_to me pending (take i given)) + 1 ≡ length (replies_to me pending (take (i + 1) given)) =
          sym (length-append (replies_to me pending (take i given)) (reply ∷ [])) ∙ ap length more in
          let out_is : c.if-awaits.out ≡ w.reply.new.self = w.out-is in
          let room : c.loop-answer.out.room ≤ c.if-awaits.out.room + 40 = subst (λ (out : Sending). c.loop-answer.out.room ≤ out.room + 40) (sym out_is) w.reply.ensures.room in (
            ap (λ (out : Sending). out.sent) out_is
                ∙ w.reply.ensures.sent
                ∙ ap (λ (run : List Message). run ++ reply ∷ []) c.loop-answer.invariant.0
                ∙ append_assoc start (replies_to me pending (take i given)) (reply ∷ [])
                ∙ ap (λ (l : List Message). start ++ l) more,
            omega (arith, long, room, c.loop-answer.invariant.1),
          )
      | else-awaits w ↦
          let same : replies_to me pending (take i given) ≡ replies_to me pending (take (i + 1) given) =
          replies_no_more me pending given i answer c.loop-answer-test.true c.answer-item.is (sym c.awaits.ensures.value ∙ w.if-awaits.false) in
          let So : List Message → Sending → Type 0 = λ so_far out. (out.sent ≡ start ++ so_far) × (c.args.out.now.room ≤ out.room + 40 * length so_far) in
          subst (λ (so_far : List Message). So so_far c.if-awaits.out) same
          (subst (λ (out : Sending). So (replies_to me pending (take i given)) out) (sym w.out-is) c.loop-answer.invariant)
    ]
