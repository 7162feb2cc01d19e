-- One name more.
use Rattle.std.proofs.Common.{◌+◌, ℤ, ◌∷◌, ◌++◌, ◌∙◌, ap, string_bytes, w64}
use Rattle.std.proofs.lemmas.Int.{to_z-of_z}
use Rattle.std.specs.Fmt.{signed_decimal}
use Rattle.rp_entry.specs.rp_body.specs.Store.{int_value}
use Rattle.rp_object.proofs.Writing.{ints_more}
use Rattle.rp_object.proofs.image.write_ints.Goals as goal

pub loop-name-preserved : goal.loop-name-preserved
loop-name-preserved c =
    let before = string_bytes c.loop-name.text in
    let name = string_bytes c.name-item.result in
    let value = to_z-of_z w64 c.int_value.result (record { sfits = c.int_value.type_inv }) ∙ c.int_value.ensures ∙ ap (int_value c.args.components.now) c.loop-name.invariant.place in
    record {
      place = ap (λ n. n + 1) c.loop-name.invariant.place;
      text = ints_more c.args.components.now c.args.names.now c.loop-name.name-index c.name-item.result c.loop-name-test.true c.name-item.is (string_bytes c.args.text.now) before (string_bytes c.write.new.self) c.loop-name.invariant.text
          (c.in_ok-write.ensures.bytes ∙ ap (λ (z : ℤ). before ++ 32 ∷ (name ++ 61 ∷ signed_decimal z)) value);
    }
