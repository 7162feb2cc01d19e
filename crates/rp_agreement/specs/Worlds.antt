-- The invariant of a world.
use Rattle.std.specs.Prelude.{◌≡◌, ℕ, Some, unwrap_or, List, length}
use Rattle.rp_model.specs.Parts.{fresh_node}
use Rattle.rp_model.specs.World.{World, part_at}
use Rattle.rp_model.specs.Parts.{NodePart}
use Rattle.rp_model.specs.Parts.{TaskPart}
use Rattle.rp_agreement.specs.Sound.{IsSound}
use Rattle.rp_agreement.specs.Inputs.{WaitsForOwn}

-- the part of the node of this number, from 1; a fresh one where there is no such node
abbrev pub node_in : List NodePart → ℕ → NodePart
node_in nodes k = unwrap_or (part_at nodes k) fresh_node

-- A world of n nodes satisfies the invariant.
pub record IsSoundWorld (nodes : ℕ) (w : World) : Type 0 where
  pub size : length w.nodes ≡ nodes
  pub sound : IsSound nodes (node_in w.nodes) w.sent
  pub waits : (t : ℕ) (part : TaskPart) → part_at w.tasks t ≡ Some part → WaitsForOwn t part
