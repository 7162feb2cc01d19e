use Rattle.std.proofs.Common.{◌≡◌, ◌-◌, length, refl, sym, ap, ◌∙◌, arith}
use Rattle.rp_base.specs.declared.record.Rec.{Rec}
use Rattle.rp_codec.specs.Record.{record_text}
use Rattle.rp_codec.specs.RecordReading.{record_at}
use Rattle.rp_codec.proofs.Steps.{IsBytes}
use Rattle.rp_codec.proofs.RecordLaws.{front_found, front_length, front_only, front_none}
use Rattle.rp_codec.proofs.record_text.decode_front.Goals as goal

pub overflow_sub-result : goal.overflow_sub-result
overflow_sub-result c =
    let bytes : IsBytes c.args.bytes.now = λ i. omega (arith, c.type_inv.bytes i) in
    let read = ap record_at (sym c.new-reader.ensures) ∙ c.in-Ok.ensures in
    omega (arith, c.len.ensures, front_length c.args.bytes.now c.read_record.new.reader c.in-Ok.rec bytes read)

pub returns-in-Ok-clause-valid : goal.returns-in-Ok-clause-valid
returns-in-Ok-clause-valid c =
    let bytes : IsBytes c.args.bytes.now = λ i. omega (arith, c.type_inv.bytes i) in
    let read = ap record_at (sym c.new-reader.ensures) ∙ c.in-Ok.ensures in
    let found = front_found c.args.bytes.now c.read_record.new.reader c.in-Ok.rec bytes read in
    (λ _. (c.in-Ok.rec, c.read_record.new.reader, found.0, found.1), λ _. refl)

pub returns-in-Ok-clause-value : goal.returns-in-Ok-clause-value
returns-in-Ok-clause-value c = λ r rest is text.
    let bytes : IsBytes c.args.bytes.now = λ i. omega (arith, c.type_inv.bytes i) in
    let read = ap record_at (sym c.new-reader.ensures) ∙ c.in-Ok.ensures in
    let same = front_only c.args.bytes.now c.read_record.new.reader c.in-Ok.rec read r rest is text in
    let long = front_length c.args.bytes.now c.read_record.new.reader c.in-Ok.rec bytes read in
    let same_long = ap (λ (s : Rec). length (record_text s)) same in
    let used : length c.args.bytes.now - c.len.result ≡ length (record_text r) = omega (arith, c.len.ensures, long, same_long) in
    rw (same, used) refl

pub returns-in-Err-clause-valid : goal.returns-in-Err-clause-valid
returns-in-Err-clause-valid c =
    (λ e. absurd cc, λ begins. absurd (front_none c.args.bytes.now _ (ap record_at (sym c.new-reader.ensures) ∙ c.in-Err.ensures) begins))

pub returns-in-Err-clause-value : goal.returns-in-Err-clause-value
returns-in-Err-clause-value c = λ r rest is text.
    absurd (front_none c.args.bytes.now _ (ap record_at (sym c.new-reader.ensures) ∙ c.in-Err.ensures) (r, rest, is, text))
