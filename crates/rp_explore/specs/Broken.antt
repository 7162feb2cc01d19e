-- After which of the orders that were found a property does not hold.
use Rattle.std.specs.Prelude.{ℕ, ◌<◌, ◌⊎◌, ◌≡◌, Bool, false, IsTrue, List, length, slice_index_or}
use Rattle.rp_base.specs.declared.action.Action.{Action}
use Rattle.rp_base.specs.declared.reply.Answer.{Answer}
use Rattle.rp_machine.specs.Replay.{replay_state}
use Rattle.rp_explore.specs.Explored.{Exploration}
use Rattle.rp_explore.specs.Listed.{order_at}

-- the state after the order at a place
abbrev pub state_at : {S : Type 0} → (S → Action → S) → (S → Action → List Answer) → S
    → List (List Action) → ℕ → S
state_at next answers begin orders place = replay_state next answers begin (order_at orders place)

-- a property is asked of the order at the place: of each, or of those after which nothing changes
abbrev pub IsAskedAt : Exploration → Bool → ℕ → Type 0
IsAskedAt found is_final_only place =
    (is_final_only ≡ false) ⊎ IsTrue (slice_index_or found.finals place false)

module _ (found : Exploration) (is_final_only : Bool) (holds : ℕ → Type 0) where
  -- it holds after each of which it is asked
  abbrev pub IsNeverBroken : Type 0
  IsNeverBroken = (place : ℕ) → place < length found.orders
      → IsAskedAt found is_final_only place → holds place

  -- it does not hold after the order at the place, of which it is asked, and holds after each
  -- earlier one of which it is
  pub record IsFirstBroken (place : ℕ) : Type 0 where
    pub within : place < length found.orders
    pub asked : IsAskedAt found is_final_only place
    pub broken : ¬ holds place
    pub first : (earlier : ℕ) → earlier < place
        → IsAskedAt found is_final_only earlier → holds earlier
