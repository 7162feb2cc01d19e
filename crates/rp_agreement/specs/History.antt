-- What right events lead to.
use Rattle.std.specs.Prelude.{List, ◌++◌}
use Rattle.rp_base.specs.Config.{IsRightConfig}
use Rattle.rp_base.specs.Sets.{Has}
use Rattle.rp_model.specs.Answers.{Happen}
use Rattle.rp_model.specs.Effect.{Setting}
use Rattle.rp_model.specs.Events.{Event, IsRightEvent}
use Rattle.rp_model.specs.World.{World, opening_world}

-- In a right configuration, these right events lead from the opening world to this one.
pub record IsHistory {S : Type 0} (s : Setting S) (events : List Event) (w : World) : Type 0 where
  pub config : IsRightConfig s.config
  pub right : (event : Event) → Has event events → IsRightEvent event
  pub happened : Happen s (opening_world s.config.nodes) events w

-- Two moments of a history: some events lead to the one world, these and more to the other.
pub record AreMoments {S : Type 0} (s : Setting S) (now later : World) : Type 0 where
  pub events : List Event
  pub more : List Event
  pub before : IsHistory s events now
  pub after : IsHistory s (events ++ more) later
