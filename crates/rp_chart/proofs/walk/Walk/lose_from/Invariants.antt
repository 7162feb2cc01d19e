use Rattle.std.proofs.Common.{◌≡◌, ℕ, ◌+◌, ◌-◌, ◌<◌, ◌≤◌, true, false, List, ◌++◌, map}
use Rattle.rp_history.specs.Histories.{Happening}
use Rattle.rp_run.specs.Output.{Play}
use Rattle.rp_run.specs.Runs.{Follows}
use Rattle.rp_run.specs.Settled.{is_settled}
use Rattle.rp_chart.specs.ScriptCharts.{HasWays, IsCharted, IsSettledAlike}
use Rattle.rp_chart.specs.ScriptHistory.{drawn_run, message_lost, unsettled_in}
use Rattle.rp_chart.proofs.walk.Walk.lose_from.Given as goal

-- the messages so far that were not settled are drawn as lost, and nothing else changes
abbrev pub invariant-loop-number : goal.invariant-loop-number
invariant-loop-number g l =
    let m = g.M.Machine in
    let d = drawn_run m.next m.answers m.begin m.image l.fn.self.cluster l.scene in
    record {
      above : l.first ≤ l.number;
      unsettled : is_settled l.fn.self.settled l.number ≡ false;
      past : (n : ℕ) → l.last < n → n < l.number → is_settled l.fn.self.settled n ≡ true;
      cluster : l.self.cluster ≡ l.fn.self.cluster;
      settled : IsSettledAlike l.fn.self.settled l.self.settled;
      stage : l.self.chart.stage ≡ l.fn.self.chart.stage;
      ways : HasWays l.self.cluster l.self.chart;
      charted : (play : Play) (happened : List Happening) → Follows l.fn.self.cluster.world l.fn.self.settled play
          → IsCharted m.next m.answers m.begin l.fn.self.cluster l.fn.self.chart happened
          → IsCharted m.next m.answers m.begin l.self.cluster l.self.chart
          (happened ++ map (message_lost d play.world) (unsettled_in play l.first (l.number - 1)));
    }

abbrev pub decreases-loop-number : goal.decreases-loop-number
decreases-loop-number g l = l.last + 1 - l.number
