-- The page is that of the sketch of the history.
use Rattle.std.proofs.Common.{◌≡◌, ◌∙◌, ◌++◌, ℕ, List, [], refl, sym, ap}
use Rattle.rp_drawing.specs.Drawings.{page_text}
use Rattle.rp_drawing.specs.declared.sketch.Row.{Row}
use Rattle.rp_history.specs.Frame.{before_drawing, after_drawing, after_sections, after_switch, switch_text}
use Rattle.rp_history.specs.Pages.{sections_text}
use Rattle.rp_history.proofs.page.draw_page.Goals as goal

pub returns-then-is_too_long-clause-page : goal.returns-then-is_too_long-clause-page
returns-then-is_too_long-clause-page g c = λ s happened last sketched.
    record { sketch = c.args.chart.now.sketch; sketched = sketched; long = sym c.is_too_long.ensures ∙ c.if-is_too_long.true }

pub returns-clause-page : goal.returns-clause-page
returns-clause-page g c = λ s happened last sketched.
    let names = c.args.lanes.now in
    let sketch = c.args.chart.now.sketch in
    let drawing = c.deref.ensures ∙ c.in_ok-drawing.ensures.page in
    let page = λ (before : List ℕ) (drawn : List ℕ) (rows : List Row). before ++ before_drawing ++ drawn ++ after_drawing ++ switch_text c.args.form ++ after_switch ++ sections_text names rows ++ after_sections in
    record {
      sketch = sketch;
      sketched = sketched;
      short = sym c.is_too_long.ensures ∙ c.if-is_too_long.false;
      names = names;
      lanes_are = refl;
      page = c.in_ok-add_page.ensures
          ∙ ap (λ (l : List ℕ). page l c.deref.result.now c.deref-2.result.now) c.new-text.ensures.bytes
          ∙ ap (λ (l : List ℕ). page [] l c.deref-2.result.now) drawing
          ∙ ap (λ (rows : List Row). page [] (page_text names sketch) rows) c.deref-2.ensures.value;
    }
