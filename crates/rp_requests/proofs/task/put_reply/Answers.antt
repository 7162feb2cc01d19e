-- A value's text is a byte and the value's bytes.
use Rattle.std.proofs.Common.{List, [], ◌∷◌, ℕ, ℤ, subst, sym, rules, w64}
use Rattle.std.proofs.lemmas.Int.{to_z-of_z}
use Rattle.std.specs.Int.{to_be_bytes, cast_unsigned}
use mir.Val.{SFits}
use Rattle.rp_base.specs.declared.reply.Reply.{Reply}
use Rattle.rp_codec.specs.Text.{number_text, reply_text}
use Rattle.rp_requests.specs.Buffers.{IsPutInFront}
use Rattle.rp_requests.proofs.task.put_reply.Goals as goal

pub returns-in-Value : goal.returns-in-Value
unfolding number_text
returns-in-Value c =
    let fits : SFits w64 c.in-Value.value = search rules in
    subst (λ (r : Reply). IsPutInFront [] (reply_text r) c.args.answer.now c.put_tagged.new.answer c.put_tagged.result) (sym c.in-Value.is)
    (subst (λ (v : ℤ). IsPutInFront [] (1 ∷ to_be_bytes w64 (cast_unsigned w64 v)) c.args.answer.now c.put_tagged.new.answer c.put_tagged.result) (to_z-of_z w64 c.in-Value.value fits)
    (subst (λ (bytes : List ℕ). IsPutInFront [] (1 ∷ bytes) c.args.answer.now c.put_tagged.new.answer c.put_tagged.result) c.to_be_bytes.ensures c.put_tagged.ensures))
