use Rattle.std.proofs.Common.{◌≡◌, ◌-◌, length, refl, sym, ap, ◌∙◌, arith}
use Rattle.rp_codec.specs.Message.{Message}
use Rattle.rp_codec.specs.Text.{text_of}
use Rattle.rp_codec.specs.Reading.{packet_at}
use Rattle.rp_codec.proofs.Steps.{IsBytes}
use Rattle.rp_codec.proofs.Decoded.{front_found, front_length, front_only, front_none}
use Rattle.rp_codec.proofs.decoding.packet_len.Goals as goal

pub overflow_sub-result : goal.overflow_sub-result
overflow_sub-result c =
    let bytes : IsBytes c.args.bytes.now = λ i. omega (arith, c.type_inv.bytes i) in
    let read = ap packet_at (sym c.new-reader.ensures) ∙ c.in-Ok.ensures.1 in
    omega (arith, c.len.ensures, front_length c.args.bytes.now c.skip_packet.new.reader c.in-Ok.ensures.0 bytes read)

pub returns-in-Ok-clause-valid : goal.returns-in-Ok-clause-valid
returns-in-Ok-clause-valid c =
    let bytes : IsBytes c.args.bytes.now = λ i. omega (arith, c.type_inv.bytes i) in
    let read = ap packet_at (sym c.new-reader.ensures) ∙ c.in-Ok.ensures.1 in
    let found = front_found c.args.bytes.now c.skip_packet.new.reader c.in-Ok.ensures.0 bytes read in
    (λ _. (c.in-Ok.ensures.0, c.skip_packet.new.reader, found.0, found.1), λ _. refl)

pub returns-in-Ok-clause-value : goal.returns-in-Ok-clause-value
returns-in-Ok-clause-value c = λ p rest packet text.
    let bytes : IsBytes c.args.bytes.now = λ i. omega (arith, c.type_inv.bytes i) in
    let read = ap packet_at (sym c.new-reader.ensures) ∙ c.in-Ok.ensures.1 in
    let same = front_only c.args.bytes.now c.skip_packet.new.reader c.in-Ok.ensures.0 read p rest packet text in
    let long = front_length c.args.bytes.now c.skip_packet.new.reader c.in-Ok.ensures.0 bytes read in
    let same_long = ap (λ (m : Message). length (text_of m)) same in
    let used : length c.args.bytes.now - c.len.result ≡ length (text_of p) = omega (arith, c.len.ensures, long, same_long) in
    rw used refl

pub returns-in-Err-clause-valid : goal.returns-in-Err-clause-valid
returns-in-Err-clause-valid c =
    (λ e. absurd cc, λ begins. absurd (front_none c.args.bytes.now _ (ap packet_at (sym c.new-reader.ensures) ∙ c.in-Err.ensures) begins))

pub returns-in-Err-clause-value : goal.returns-in-Err-clause-value
returns-in-Err-clause-value c = λ p rest packet text.
    absurd (front_none c.args.bytes.now _ (ap packet_at (sym c.new-reader.ensures) ∙ c.in-Err.ensures) (p, rest, packet, text))
