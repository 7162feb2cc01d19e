-- The chart of a cluster's history (no public clause names it).
use Rattle.std.specs.Prelude.{◌≡◌, ℕ, ◌++◌, List, Result, OnOk, length}
use Rattle.rp_run.specs.rp_base.specs.declared.action.Action.{Action}
use Rattle.rp_run.specs.rp_base.specs.declared.fault.Fault.{Fault}
use Rattle.rp_run.specs.rp_base.specs.declared.reply.Answer.{Answer}
use Rattle.rp_history.specs.Histories.{Happening, IsDrawable, IsSketchOf}
use Rattle.rp_history.specs.declared.chart.Chart.{Chart}
use Rattle.rp_run.specs.Output.{Play}
use Rattle.rp_run.specs.Runs.{Follows}
use Rattle.rp_run.specs.Settled.{is_settled}
use Rattle.rp_run.specs.declared.settled.Settled.{Settled}
use Rattle.rp_world.specs.rp_actors.specs.Steps.{ClusterState, cluster_setting}
use Rattle.rp_chart.specs.declared.walk.Walk.{Walk}

-- the same messages are settled
abbrev pub IsSettledAlike : Settled → Settled → Type 0
IsSettledAlike old new = (m : ℕ) → is_settled new m ≡ is_settled old m

-- each message that the cluster has sent has its way in the chart
pub record HasWays {P : Type 0} (cluster : ClusterState P) (chart : Chart) : Type 0 where
  pub drawable : IsDrawable chart.sketch
  pub count : length chart.sketch.ways.items ≡ length cluster.world.sent

-- the chart is that of the cluster's history so far, in which this happened
abbrev pub IsCharted : {S P : Type 0} → (S → Action → S) → (S → Action → List Answer) → (P → S)
    → ClusterState P → Chart → List Happening → Type 0
IsCharted next answers start cluster chart happened =
    IsSketchOf (cluster_setting next answers start cluster) chart.stage chart.sketch happened
    cluster.world

-- the walk goes on in the play that this makes of the one that it is in
abbrev pub Reaches : {M D P : Type 0} → Walk M D P → Walk M D P → Result Unit Fault
    → (Play → Play) → Type 0
Reaches old new result onward = (play : Play) → Follows old.cluster.world old.settled play
    → OnOk result (Follows new.cluster.world new.settled (onward play))

module _ {S P : Type 0} (next : S → Action → S) (answers : S → Action → List Answer)
    (start : P → S) where
  -- this happens after all that the chart has
  abbrev pub Charts : {M D : Type 0} → Walk M D P → Walk M D P → Result Unit Fault
      → List Happening → Type 0
  Charts old new result items = (happened : List Happening)
      → IsCharted next answers start old.cluster old.chart happened
      → OnOk result (IsCharted next answers start new.cluster new.chart (happened ++ items))

  -- the same, where what happens is told by the play that the walk is in
  abbrev pub ChartsPlay : {M D : Type 0} → Walk M D P → Walk M D P → Result Unit Fault
      → (Play → List Happening) → Type 0
  ChartsPlay old new result items = (play : Play) (happened : List Happening)
      → Follows old.cluster.world old.settled play
      → IsCharted next answers start old.cluster old.chart happened
      → OnOk result (IsCharted next answers start new.cluster new.chart (happened ++ items play))
