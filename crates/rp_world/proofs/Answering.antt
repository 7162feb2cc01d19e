-- Steps make a history, and clusters of one setup share their setting.
use Rattle.std.proofs.Common.{◌≡◌, Ok, List, [], ◌∷◌, ◌++◌, ap, subst}
use Rattle.rp_base.specs.declared.action.Action.{Action}
use Rattle.rp_base.specs.declared.reply.Answer.{Answer}
use Rattle.rp_model.specs.declared.effect.Effect.{Effect}
use Rattle.rp_model.specs.Effect.{Setting}
use Rattle.rp_model.specs.Events.{Event}
use Rattle.rp_model.specs.World.{World, event_effect}
use Rattle.rp_model.specs.Answers.{Steps, Happen}
use Rattle.rp_actors.specs.Steps.{ClusterState, Setup, cluster_setting}

module _ {S : Type 0} (s : Setting S) where
  -- one event more happens
  pub happen_more : (w : World) (events : List Event) (now after : World) (event : Event) (effect : Effect)
      → Happen s w events now → Steps s now event after (Ok effect) → Happen s w (events ++ event ∷ []) after
  happen_more w [] now after event effect here step =
      (step.transition, subst (λ (x : World). event_effect s x event ≡ Ok step.transition) here step.resulted, step.world)
  happen_more w (e ∷ rest) now after event effect here step = (here.0, here.1, happen_more here.0.world rest now after event effect here.2 step)

module _ {S P : Type 0} (next : S → Action → S) (answers : S → Action → List Answer) (start : P → S) where
  -- the nodes of two clusters of one setup share the same
  pub same_setting : (old new : ClusterState P) → new.setup ≡ old.setup → cluster_setting next answers start new ≡ cluster_setting next answers start old
  same_setting old new same =
      ap (λ (u : Setup P). cluster_setting next answers start (record old { setup = u })) same
