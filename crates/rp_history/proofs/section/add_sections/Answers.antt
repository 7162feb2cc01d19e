-- A section more is written, and those after it are left.
use Rattle.std.proofs.Common.{◌≡◌, ◌∙◌, ◌+◌, ◌++◌, ◌<◌, ℕ, List, length, drop, get_or, string_bytes, ap, sym, arith, append_assoc}
use Rattle.std.proofs.lemmas.List.{at_drop_more}
use Rattle.rp_history.specs.Pages.{row_section, sections_from}
use Rattle.rp_drawing.specs.declared.sketch.Row.{Row}
use Rattle.rp_history.proofs.section.add_sections.Goals as goal

pub loop-place-preserved : goal.loop-place-preserved
loop-place-preserved c =
    let rows = c.args.rows.now in
    let place = c.loop-place.place in
    let lanes = c.args.lanes.now in
    let text = string_bytes c.loop-place.text in
    let row = c.index-rows-place.result in
    let rest = sections_from lanes (place + 1 + 1) (drop (place + 1) rows) in
    let within : place < length rows = omega (arith, c.loop-place-test.true) in
    let step : text ++ sections_from lanes (place + 1) (drop place rows) ≡ text ++ (row_section lanes (place + 1) (get_or rows place row) ++ rest) =
    at_drop_more (λ (left : List Row). text ++ sections_from lanes (place + 1) left) rows place row within in
    ap (λ (t : List ℕ). t ++ rest) c.in_ok-add_section.ensures
    ∙ append_assoc text (row_section lanes (place + 1) row) rest
    ∙ ap (λ (l : Row). text ++ (row_section lanes (place + 1) l ++ rest)) c.index-rows-place.is
    ∙ sym step
    ∙ c.loop-place.invariant
