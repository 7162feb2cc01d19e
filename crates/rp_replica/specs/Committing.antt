-- The result of a plan that is committed (no public clause names it).
use Rattle.std.specs.Prelude.{◌≡◌, ◌++◌, List}
use Rattle.rp_codec.specs.Message.{Message}
use Rattle.rp_model.specs.Parts.{Turn}
use Rattle.rp_replica.specs.State.{ReplicaState, after_turn}

-- The turn took effect: its record is written and stable, and its packets are after the others.
pub record Commits {S : Type 0} (turn : Turn) (old new : ReplicaState S)
    (before after : List Message) : Type 0 where
  pub goes : new ≡ after_turn old turn
  pub sent : after ≡ before ++ turn.sent
