use Rattle.std.proofs.Common.{◌≡◌, None, drop}
use Rattle.rp_run.specs.Output.{opening_play, script_said}
use Rattle.rp_run.specs.Runs.{HasParts, opening_cluster, run_setting}
use Rattle.rp_run.proofs.RunParts.{Underway}
use Rattle.rp_chart.specs.ScriptCharts.{HasWays}
use Rattle.rp_chart.specs.ScriptHistory.{drawn_run, lines_happen, script_happens}
use Rattle.rp_chart.proofs.Charting.{Underway as ChartUnderway}
use Rattle.rp_chart.proofs.walk.draw_lines.Given as goal

-- what happened so far, and then the lines that are left, is the whole script
abbrev pub invariant-loop-line : goal.invariant-loop-line
invariant-loop-line g l =
    let m = g.M.Machine in
    let options = l.scene.options.now in
    let opening = opening_cluster options.config l.fn.program in
    let s = run_setting m.next m.answers m.begin m.image opening options in
    let d = drawn_run m.next m.answers m.begin m.image opening l.scene in
    record {
      parts : HasParts options.config.nodes l.walk.cluster;
      setup : l.walk.cluster.setup ≡ opening.setup;
      stage : l.walk.chart.stage ≡ l.scene.stage;
      so_far : Underway l.walk.cluster.world l.walk.settled None None (script_said s options.most (opening_play s) options.lines.now)
          (λ now. script_said s options.most now (drop l.line-index options.lines.now));
      ways : HasWays l.walk.cluster l.walk.chart;
      charted : ChartUnderway m.next m.answers m.begin l.walk.cluster l.walk.settled l.walk.chart (script_happens d options.most options.lines.now)
          (λ now. lines_happen d options.most now (drop l.line-index options.lines.now));
    }
