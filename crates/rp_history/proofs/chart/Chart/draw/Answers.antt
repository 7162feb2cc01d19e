-- What is drawn is the sketch of the history.
use Rattle.std.proofs.Common.{◌∙◌, ℕ, string_bytes, refl, sym, subst}
use Rattle.std.proofs.lemmas.List.{length-map}
use Rattle.rp_drawing.specs.Drawings.{IsDrawnBy}
use Rattle.rp_history.specs.Histories.{lane_text}
use Rattle.rp_history.proofs.chart.Chart.draw.Goals as goal

pub returns-then-is_too_long-clause-drawn : goal.returns-then-is_too_long-clause-drawn
returns-then-is_too_long-clause-drawn g c = λ s happened last sketched.
    record { sketch = c.args.self.now.sketch; sketched = sketched; long = sym c.is_too_long.ensures ∙ c.if-is_too_long.true }

pub returns-clause-drawn : goal.returns-clause-drawn
returns-clause-drawn g c = λ s happened last sketched.
    let names = c.args.lanes.now in
    record {
      sketch = c.args.self.now.sketch;
      sketched = sketched;
      short = sym c.is_too_long.ensures ∙ c.if-is_too_long.false;
      names = names;
      lanes_are = refl;
      page = c.in_ok-draw.ensures.page;
      drawn = subst (λ (n : ℕ). IsDrawnBy c.args.self.now.sketch n (string_bytes c.in_ok-draw.field-0)) (sym (length-map names lane_text)) c.in_ok-draw.ensures.drawn;
    }
