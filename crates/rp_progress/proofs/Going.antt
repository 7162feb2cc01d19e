-- What goes on from a world that keeps the invariants keeps them, and it is a history.
use Rattle.std.proofs.Common.{ℕ, List, [], ◌∷◌, ◌++◌, inl, inr, refl, sym, subst}
use Rattle.rp_base.specs.Config.{IsRightConfig}
use Rattle.rp_base.specs.Sets.{Has}
use Rattle.rp_base.proofs.Members.{has_split}
use Rattle.rp_model.specs.Answers.{Happen}
use Rattle.rp_model.specs.Effect.{Setting}
use Rattle.rp_model.specs.Events.{Event, IsRightEvent}
use Rattle.rp_model.specs.World.{World, opening_world, event_effect}
use Rattle.rp_agreement.specs.Answered.{IsKeptWorld}
use Rattle.rp_agreement.specs.History.{IsHistory}
use Rattle.rp_agreement.proofs.EventWalk.{any_input, any_task, any_event, result_keeps, event_keeps}
use Rattle.rp_agreement.proofs.KeptWorlds.{kept_by_all}
use Rattle.rp_possible.specs.Rounds.{GoesOnBy}

module _ {S : Type 0} (s : Setting S) (quorum : List ℕ) (t first : ℕ) where
  pub keeps_on : IsRightConfig s.config → (w : World) (events : List Event) (after : World) → IsKeptWorld s w → GoesOnBy s quorum t first w events after → IsKeptWorld s after
  keeps_on right w [] after kept goes = subst (IsKeptWorld s) (sym goes) kept
  keeps_on right w (event ∷ rest) after kept goes =
      keeps_on right goes.0.world rest after
      (result_keeps s any_input any_task (IsKeptWorld s) (kept_by_all s right) (event_effect s w event) goes.0 goes.0.world
      (event_keeps s any_input any_task (IsKeptWorld s) (kept_by_all s right) w event kept goes.2 (any_event event)) goes.1 refl)
      goes.4

  are_right : (w : World) (events : List Event) (after : World) → GoesOnBy s quorum t first w events after → (event : Event) → Has event events → IsRightEvent event
  are_right w [] after goes event h = absurd h
  are_right w (one ∷ rest) after goes event h =
      elim h [
        | inl same ↦ subst IsRightEvent (sym same) goes.2
        | inr later ↦ are_right goes.0.world rest after goes.4 event later
      ]

  happens_on : (w : World) (events : List Event) (after : World) → GoesOnBy s quorum t first w events after → Happen s w events after
  happens_on w [] after goes = goes
  happens_on w (event ∷ rest) after goes = (goes.0, goes.1, happens_on goes.0.world rest after goes.4)

  happen_then : (w : World) (events : List Event) (middle : World) (more : List Event) (after : World) → Happen s w events middle → Happen s middle more after → Happen s w (events ++ more) after
  happen_then w [] middle more after happened on = subst (λ (v : World). Happen s v more after) happened on
  happen_then w (event ∷ rest) middle more after happened on = (happened.0, happened.1, happen_then happened.0.world rest middle more after happened.2 on)

  pub is_history : (events more : List Event) (w after : World) → IsHistory s events w → GoesOnBy s quorum t first w more after → IsHistory s (events ++ more) after
  is_history events more w after history goes = record {
    config = history.config;
    right = λ event h. elim (has_split event events more h) [
      | inl before ↦ history.right event before
      | inr later ↦ are_right w more after goes event later
    ];
    happened = happen_then (opening_world s.config.nodes) events w more after history.happened (happens_on w more after goes);
  }
