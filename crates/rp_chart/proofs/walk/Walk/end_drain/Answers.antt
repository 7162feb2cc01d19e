-- The line has the label.
use Rattle.std.proofs.Common.{◌≡◌, ◌∙◌, ℕ, true, List, [], ◌∷◌, ◌++◌, codes, rules, ap, string_bytes}
use Rattle.rp_history.specs.rp_drawing.specs.Words.{whole_text}
use Rattle.rp_history.specs.Histories.{LabelText}
use Rattle.rp_chart.specs.Causes.{line_text}
use Rattle.rp_chart.specs.ScriptHistory.{drawn_run, line_label, under}
use Rattle.rp_chart.proofs.Charting.{charted_as}
use Rattle.rp_chart.proofs.walk.Walk.end_drain.Goals as goal

pub returns-clause-charted : goal.returns-clause-charted
returns-clause-charted g c = λ happened charted.
    let m = g.M.Machine in
    let d = drawn_run m.next m.answers m.begin m.image c.args.self.now.cluster c.args.scene.now in
    let line = line_text d.deck c.args.line in
    let words : string_bytes c.in_ok-effect.effect.text ≡ whole_text (codes "drain limit") = search rules in
    let label = c.in_ok-label.ensures ∙ ap (λ (t : List ℕ). line_label line t true) words in
    charted_as m.next m.answers m.begin c.stay.new.self.cluster c.stay.new.self.chart _ _ c.stay.result
    (ap (λ (l : LabelText). happened ++ under l ∷ []) label) (c.stay.ensures.charted happened charted)
