-- A message is the packet that is read from its text.
use Rattle.std.proofs.Common.{◌≡◌, ℕ, List, Option, Some, None, Result, refl, sym, ap, subst, ◌∙◌}
use Rattle.std.specs.Prelude.{IfSome}
use Rattle.std.specs.Result.{result_ok}
use Rattle.rp_base.specs.declared.fault.PacketReason.{PacketReason}
use Rattle.rp_model.specs.rp_codec.specs.Decoding.{IsDecoded}
use Rattle.rp_model.specs.rp_codec.specs.Message.{Message, IsPacket}
use Rattle.rp_model.specs.rp_codec.specs.Text.{text_of}
use Rattle.rp_model.specs.rp_codec.proofs.Decoded.{written_read}
use Rattle.rp_model.specs.World.{part_at}
use Rattle.rp_run.proofs.effects.sent_packet.Goals as goal

read_again : (bytes : List ℕ) (answer : Result Message PacketReason) (found : Option Message) → IsDecoded bytes answer → IfSome found (λ m. (bytes ≡ text_of m) × IsPacket m) → (found ≡ None → ⊥)
    → result_ok answer ≡ found
read_again bytes answer (Some m) is text there = ap result_ok (written_read bytes answer m is text.1 text.0)
read_again bytes answer None is text there = absurd (there refl)

pub returns-in_ok-decode-in-Ok-clause-packet : goal.returns-in_ok-decode-in-Ok-clause-packet
returns-in_ok-decode-in-Ok-clause-packet g c =
    let found = part_at c.args.cluster.now.world.sent c.args.number in
    let text = subst (λ (l : List ℕ). IfSome found (λ m. (l ≡ text_of m) × IsPacket m)) (sym c.deref.ensures.value) c.in-Ok.ensures.text in
    c.ok.ensures.value
    ∙ read_again c.deref.result.now c.in_ok-decode-in-Ok.field-0 found c.in_ok-decode-in-Ok.ensures.answer text (λ none. let refused = c.in-Ok.ensures.none.1 none in absurd cc)
