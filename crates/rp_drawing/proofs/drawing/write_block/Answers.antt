-- A name more is written, and the names after it are left.
use Rattle.std.proofs.Common.{◌≡◌, ◌∙◌, ◌+◌, ◌++◌, ◌<◌, ℕ, List, [], ◌∷◌, length, drop, get_or, string_bytes, ap, sym, arith, append_assoc}
use Rattle.std.proofs.lemmas.List.{at_drop_more}
use Rattle.rp_drawing.specs.Lines.{name_text, names_from}
use Rattle.rp_drawing.specs.declared.drawing.Lane.{Lane}
use Rattle.rp_drawing.proofs.drawing.write_block.Goals as goal

pub loop-place-preserved : goal.loop-place-preserved
loop-place-preserved c =
    let names = c.args.lanes.now in
    let place = c.loop-place.place in
    let lanes = c.args.page.lanes in
    let block = c.args.block in
    let text = string_bytes c.loop-place.text in
    let lane = c.index-lanes-place.result in
    let rest = names_from lanes block (place + 1) (drop (place + 1) names) in
    let within : place < length names = omega (arith, c.loop-place-test.true) in
    let element : c.deref.result.now ≡ name_text lanes block place lane = c.deref.ensures ∙ c.in_ok-element.ensures in
    let step : text ++ names_from lanes block place (drop place names) ≡ text ++ ((name_text lanes block place (get_or names place lane) ++ 10 ∷ []) ++ rest) =
    at_drop_more (λ (left : List Lane). text ++ names_from lanes block place left) names place lane within in
    record {
      names =
          ap (λ (t : List ℕ). t ++ rest) (c.in_ok-add_element.ensures.added ∙ ap (λ (e : List ℕ). text ++ (e ++ 10 ∷ [])) element)
          ∙ append_assoc text (name_text lanes block place lane ++ 10 ∷ []) rest
          ∙ ap (λ (l : Lane). text ++ ((name_text lanes block place l ++ 10 ∷ []) ++ rest)) c.index-lanes-place.is
          ∙ sym step
          ∙ c.loop-place.invariant.names;
      short = omega (arith, c.in_ok-add_element.ensures.short, c.loop-place.invariant.short);
    }
