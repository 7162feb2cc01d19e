-- The result of a step of a seat.
use Rattle.std.specs.Prelude.{◌≡◌, ◌⊎◌, ℕ, ◌+◌, Some, Ok}
use Rattle.rp_base.specs.Number.{IsTask}
use Rattle.rp_base.specs.declared.record.Rec.{Rec}
use Rattle.rp_model.specs.Effect.{Setting, Done, NodeInput, node_effect, cut_effect}
use Rattle.rp_model.specs.Tasks.{TaskInput, task_effect}
use Rattle.rp_model.specs.Parts.{NodePart, TaskPart}
use Rattle.rp_agreement.specs.Inputs.{IsInput, IsTaskInput}
use Rattle.rp_agreement.specs.Sound.{IsMember}
use Rattle.rp_board.specs.Parts.{Part, OfNode, OfTask, part_after}

-- an input results in this at the node, or the node stops within that step
abbrev pub ResultsInPart : {S : Type 0} → Setting S → ℕ → NodePart → NodeInput → Done NodePart
    → Type 0
ResultsInPart s x part input done =
    (node_effect s x part input ≡ Ok done)
    ⊎ ((kept : ℕ) × (cut_effect s x part input kept ≡ Ok done))

-- The device failed while the step wrote its record, of which some bytes were kept.
pub record IsCutStep {S : Type 0} (s : Setting S) (x : ℕ) (part : NodePart) (input : NodeInput)
    (done : Done NodePart) : Type 0 where
  pub whole : Done NodePart
  pub step : node_effect s x part input ≡ Ok whole
  pub written : Rec
  pub writes : whole.written ≡ Some written
  pub kept : ℕ
  pub results : cut_effect s x part input kept ≡ Ok done

-- One event of node x: the result of an input that it may be given, according to the packets that
-- it got.
pub record IsNodeEvent {S : Type 0} (s : Setting S) (x : ℕ) (before after : Part) : Type 0 where
  pub member : IsMember s.config.nodes x
  pub part : NodePart
  pub was : before.role ≡ OfNode part
  pub input : NodeInput
  pub given : IsInput before.got input
  pub done : Done NodePart
  pub results : ResultsInPart s x part input done
  pub is : after ≡ part_after before (OfNode done.part) done.sends

-- one event of task t
pub record IsTaskEvent {S : Type 0} (s : Setting S) (t : ℕ) (before after : Part) : Type 0 where
  pub task : IsTask t
  pub part : TaskPart
  pub was : before.role ≡ OfTask part
  pub input : TaskInput
  pub given : IsTaskInput before.got t input
  pub done : Done TaskPart
  pub results : task_effect s.config t part input ≡ Ok done
  pub is : after ≡ part_after before (OfTask done.part) done.sends

-- one event of actor k
abbrev pub IsEvent : {S : Type 0} → Setting S → ℕ → Part → Part → Type 0
IsEvent s k before after =
    IsNodeEvent s k before after ⊎ ((t : ℕ) × (k ≡ 7 + t) × IsTaskEvent s t before after)

-- an event of actor k may happen, after which this fact holds of its part
abbrev pub HasEvent : {S : Type 0} → Setting S → ℕ → Part → (Part → Type 0) → Type 0
HasEvent s k before says = (after : Part) × IsEvent s k before after × says after
