-- Which node makes a step, and what that node is given (no public clause names it).
use Rattle.std.specs.Prelude.{◌≡◌, ◌≤◌, ℕ, Some, Result, Ok, Err, List, length, map}
use Rattle.rp_base.specs.declared.config.Config.{Config}
use Rattle.rp_base.specs.declared.fault.Fault.{Fault}
use Rattle.rp_model.specs.Effect.{Setting, NodeInput}
use Rattle.rp_model.specs.Events.{Step}
use Rattle.rp_model.specs.World.{World, part_at, commanded, chosen_cut, chosen_record}
use Rattle.rp_model.specs.World.{step_effect, cut_step, step_writes, stepping}
use Rattle.rp_replica.specs.rp_rules.specs.Inputs.{given_by}
use Rattle.rp_replica.specs.rp_rules.specs.declared.input.Input.{Input}
use Rattle.rp_store.specs.Disk.{Disk}
use Rattle.rp_actors.specs.Callers.{Caller}
use Rattle.rp_actors.specs.Shape.{IsWorld, part_by}
use Rattle.rp_actors.specs.declared.node.ClusterNode.{ClusterNode}

-- the nodes are those of the world, in a cluster whose machine starts so
pub record AreNodesOf {S D P : Type 0} (disk : D → Disk) (begin : S) (nodes : List (ClusterNode S D P))
    (w : World)
    : Type 0 where
  pub config : Config
  pub tasks : List Caller
  pub kept : IsWorld disk config begin nodes tasks
  pub parts : w.nodes ≡ map (part_by disk config.max_positions) nodes

module _ {S : Type 0} (s : Setting S) (w : World) (step : Step) where
  -- the step is one of this node, which is given this
  pub record IsOf (me : ℕ) (input : Input) : Type 0 where
    pub given : NodeInput
    pub gives : given_by input ≡ Ok given
    pub within : me ≤ length w.nodes
    pub cut : (kept : ℕ)
        → cut_step s w step kept ≡ chosen_cut s w kept (commanded me given (part_at w.nodes me))
    pub writes : step_writes s w step
        ≡ chosen_record s (commanded me given (part_at w.nodes me))
    pub node : stepping w step ≡ Some me

  -- no node makes the step, and so none can stop within it
  abbrev pub IsOfNone : Fault → Type 0
  IsOfNone fault = (kept : ℕ) → cut_step s w step kept ≡ Err fault

  -- the step is refused so, whole or cut
  pub record IsStepRefused (fault : Fault) : Type 0 where
    pub whole : step_effect s w step ≡ Err fault
    pub none : IsOfNone fault

  -- the node that makes the step, and what it is given; or why there is none
  abbrev pub IsMaker : Result (ℕ × Input) Fault → Type 0
  IsMaker (Ok maker) = IsOf maker.0 maker.1
  IsMaker (Err fault) = IsOfNone fault
