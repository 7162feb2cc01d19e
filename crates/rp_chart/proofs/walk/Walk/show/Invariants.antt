use Rattle.std.proofs.Common.{◌≡◌, ◌≤◌, List, ◌++◌}
use Rattle.rp_history.specs.Histories.{Happening}
use Rattle.rp_chart.specs.ScriptCharts.{HasWays, IsCharted}
use Rattle.rp_chart.specs.ScriptHistory.{drawn_run, nodes_shown}
use Rattle.rp_chart.proofs.walk.Walk.show.Given as goal

-- the nodes so far are shown, and nothing else changes
abbrev pub invariant-loop-place : goal.invariant-loop-place
invariant-loop-place g l =
    let m = g.M.Machine in
    let d = drawn_run m.next m.answers m.begin m.image l.fn.self.cluster l.scene in
    record {
      within : l.place ≤ l.scene.options.now.config.nodes;
      cluster : l.self.cluster ≡ l.fn.self.cluster;
      settled : l.self.settled ≡ l.fn.self.settled;
      stage : l.self.chart.stage ≡ l.fn.self.chart.stage;
      ways : HasWays l.self.cluster l.self.chart;
      charted : (happened : List Happening) → IsCharted m.next m.answers m.begin l.fn.self.cluster l.fn.self.chart happened
          → IsCharted m.next m.answers m.begin l.self.cluster l.self.chart (happened ++ nodes_shown d l.fn.self.cluster.world l.place);
    }
