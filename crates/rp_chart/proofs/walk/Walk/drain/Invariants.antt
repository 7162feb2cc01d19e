use Rattle.std.proofs.Common.{◌≡◌, ◌-◌, None, List, ◌++◌}
use Rattle.rp_history.specs.Histories.{Happening}
use Rattle.rp_run.specs.Output.{Play, drained}
use Rattle.rp_run.specs.Runs.{HasParts, Follows, run_setting}
use Rattle.rp_run.proofs.RunParts.{Underway}
use Rattle.rp_chart.specs.ScriptCharts.{HasWays, IsCharted}
use Rattle.rp_chart.specs.ScriptHistory.{drain_happens, drawn_run}
use Rattle.rp_chart.proofs.Charting.{Underway as ChartUnderway}
use Rattle.rp_chart.proofs.walk.Walk.drain.Given as goal

-- what was delivered so far, and then a drain of what may still be delivered, is the whole drain
abbrev pub invariant-loop-delivered : goal.invariant-loop-delivered
invariant-loop-delivered g l =
    let m = g.M.Machine in
    let s = run_setting m.next m.answers m.begin m.image l.fn.self.cluster l.scene.options.now in
    let d = drawn_run m.next m.answers m.begin m.image l.fn.self.cluster l.scene in
    let most = l.scene.options.now.most in
    record {
      parts : HasParts l.scene.options.now.config.nodes l.self.cluster;
      setup : l.self.cluster.setup ≡ l.fn.self.cluster.setup;
      stage : l.self.chart.stage ≡ l.fn.self.chart.stage;
      so_far : (play : Play) → Follows l.fn.self.cluster.world l.fn.self.settled play
          → Underway l.self.cluster.world l.self.settled None None (drained s l.line most play) (λ now. drained s l.line (most - l.delivered) now);
      ways : HasWays l.self.cluster l.self.chart;
      charted : (play : Play) (happened : List Happening) → Follows l.fn.self.cluster.world l.fn.self.settled play
          → IsCharted m.next m.answers m.begin l.fn.self.cluster l.fn.self.chart happened
          → ChartUnderway m.next m.answers m.begin l.self.cluster l.self.settled l.self.chart (happened ++ drain_happens d l.line most play) (λ now. drain_happens d l.line (most - l.delivered) now);
    }
