-- What is read is what the bytes say.
use Rattle.std.proofs.Common.{◌≡◌, ℕ, Option, None, Result, Ok, Err, refl, sym, ap, ◌∙◌}
use Rattle.rp_base.specs.declared.fault.PacketReason.{PacketReason}
use Rattle.rp_base.specs.declared.reply.Reply.{Reply}
use Rattle.rp_codec.specs.Message.{Message}
use Rattle.rp_actors.specs.Going.{reply_in, reply_read}
use Rattle.rp_actors.proofs.calls.decode_reply.Goals as goal

none_read : (answer : Result Message PacketReason) → ((m : Message) → answer ≡ Ok m → ⊥) → let none : Option (ℕ × Reply) = None in none ≡ reply_read answer
none_read (Ok m) refused = absurd (refused m refl)
none_read (Err reason) refused = refl

pub returns-in_default-2 : goal.returns-in_default-2
returns-in_default-2 c = record {
  reply = none_read _ c.in_default-2.not-Ok ∙ ap reply_read c.in_ok-packet.ensures.answer.exact;
  memory = tt;
}

pub returns-in-Reply : goal.returns-in-Reply
returns-in-Reply c = record {
  reply = ap reply_in (sym c.in-Reply.is ∙ c.body.ensures.value) ∙ ap reply_read (sym c.in-Ok-2.is ∙ c.in_ok-packet.ensures.answer.exact);
  memory = tt;
}

pub returns-in-Ok : goal.returns-in-Ok
returns-in-Ok c = record { reply = ap reply_read c.in-Ok.ensures.exact; memory = tt }
