-- How a world grows by what happens.
use Rattle.std.specs.Prelude.{◌≡◌, ℕ, Some, List, ◌++◌, length}
use Rattle.rp_base.specs.declared.action.Action.{Action}
use Rattle.rp_base.specs.declared.record.Rec.{Rec}
use Rattle.rp_base.specs.Records.{applied_of}
use Rattle.rp_model.specs.Parts.{NodePart}
use Rattle.rp_model.specs.World.{World, Transition, part_at}

-- Packets are added at the end, there are as many nodes as before, and the records and the applied
-- list of each go on from what they were.
pub record Grows (before : World) (transition : Transition) : Type 0 where
  pub sent : transition.world.sent ≡ before.sent ++ transition.sends
  pub nodes : length transition.world.nodes ≡ length before.nodes
  pub records : (node : ℕ) (old new : NodePart) → part_at before.nodes node ≡ Some old
      → part_at transition.world.nodes node ≡ Some new
      → (more : List Rec) × (new.records ≡ old.records ++ more)
  pub applied : (node : ℕ) (old new : NodePart) → part_at before.nodes node ≡ Some old
      → part_at transition.world.nodes node ≡ Some new
      → (further : List Action) × (applied_of new.records ≡ applied_of old.records ++ further)
