-- One name more.
use Rattle.std.proofs.Common.{◌+◌, ℕ, Bool, List, [], ◌∷◌, ◌++◌, ◌∙◌, ap, append_assoc, string_bytes}
use Rattle.rp_entry.specs.rp_body.specs.Store.{bool_value}
use Rattle.rp_object.specs.Image.{truth_text}
use Rattle.rp_object.proofs.Writing.{bools_more}
use Rattle.rp_object.proofs.image.write_bools.Goals as goal

pub loop-name-preserved : goal.loop-name-preserved
loop-name-preserved c =
    let before = string_bytes c.loop-name.text in
    let name = string_bytes c.name-item.result in
    let value = c.bool_value.ensures ∙ ap (bool_value c.args.components.now) c.loop-name.invariant.place in
    record {
      place = ap (λ n. n + 1) c.loop-name.invariant.place;
      text = bools_more c.args.components.now c.args.names.now c.loop-name.name-index c.name-item.result c.loop-name-test.true c.name-item.is (string_bytes c.args.text.now) before (string_bytes c.write_truth.new.text) c.loop-name.invariant.text
          (c.in_ok-write_truth.ensures ∙ ap (λ (l : List ℕ). l ++ truth_text c.bool_value.result) c.in_ok-write.ensures.bytes
          ∙ append_assoc before (32 ∷ (name ++ 61 ∷ [])) (truth_text c.bool_value.result) ∙ ap (λ (l : List ℕ). before ++ 32 ∷ l) (append_assoc name (61 ∷ []) (truth_text c.bool_value.result))
          ∙ ap (λ (b : Bool). before ++ 32 ∷ (name ++ 61 ∷ truth_text b)) value);
    }
