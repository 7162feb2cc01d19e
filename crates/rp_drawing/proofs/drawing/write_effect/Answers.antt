-- A line more is written.
use Rattle.std.proofs.Common.{◌∙◌, ◌++◌, List, ℕ, [], ◌∷◌, string_bytes, ap, ap₂, sym, arith, append_assoc}
use Rattle.rp_drawing.specs.Lines.{effect_line, effect_lines}
use Rattle.rp_drawing.proofs.LineLemmas.{effect_more}
use Rattle.rp_drawing.proofs.drawing.write_effect.Goals as goal

pub loop-number-preserved : goal.loop-number-preserved
loop-number-preserved c =
    let lanes = c.args.page.lanes in
    let line = c.args.line in
    let effect = string_bytes c.args.effect.now.text in
    let number = c.loop-number.number in
    let before = string_bytes c.args.text.now in
    record {
      effect =
          c.in_ok-add_element.ensures.added
          ∙ ap₂ (λ (t e : List ℕ). t ++ (e ++ 10 ∷ [])) c.loop-number.invariant.effect (c.deref.ensures ∙ c.in_ok-element.ensures)
          ∙ append_assoc before (effect_lines lanes line effect number) (effect_line lanes line effect number ++ 10 ∷ [])
          ∙ ap (λ (l : List ℕ). before ++ l) (sym (effect_more lanes line effect number));
      short = omega (arith, c.in_ok-add_element.ensures.short, c.loop-number.invariant.short);
    }
