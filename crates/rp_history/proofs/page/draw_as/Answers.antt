-- By the form that is asked for.
use Rattle.std.proofs.Common.{map, sym, subst, string_bytes}
use Rattle.std.specs.Option.{option_map}
use Rattle.std.specs.Prelude.{IfOk}
use Rattle.rp_history.specs.Histories.{lane_text}
use Rattle.rp_history.specs.Pages.{IsDrawnAs}
use Rattle.rp_history.specs.declared.page.Form.{Form}
use Rattle.rp_history.proofs.page.draw_as.Goals as goal

pub returns-in-Drawing-clause-drawn : goal.returns-in-Drawing-clause-drawn
returns-in-Drawing-clause-drawn g c = λ s happened last sketched.
    subst (λ (form : Form). IfOk c.draw.result (λ text. IsDrawnAs form s c.args.chart.now.stage (map lane_text c.args.lanes.now) happened last (option_map string_bytes text)))
    (sym c.in-Drawing.is) (c.draw.ensures.drawn s happened last sketched)

pub returns-in-Page-clause-drawn : goal.returns-in-Page-clause-drawn
returns-in-Page-clause-drawn g c = λ s happened last sketched.
    subst (λ (form : Form). IfOk c.draw_page.result (λ text. IsDrawnAs form s c.args.chart.now.stage (map lane_text c.args.lanes.now) happened last (option_map string_bytes text)))
    (sym c.in-Page.is) (c.draw_page.ensures.page s happened last sketched)

pub returns-in-Calls-clause-drawn : goal.returns-in-Calls-clause-drawn
returns-in-Calls-clause-drawn g c = λ s happened last sketched.
    subst (λ (form : Form). IfOk c.draw_page-in-Calls.result (λ text. IsDrawnAs form s c.args.chart.now.stage (map lane_text c.args.lanes.now) happened last (option_map string_bytes text)))
    (sym c.in-Calls.is) (c.draw_page-in-Calls.ensures.page s happened last sketched)
