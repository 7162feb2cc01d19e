-- The turns of a loop, one after the other, whoever makes them: a node or a task.
use Rattle.std.specs.Prelude.{◌≡◌, ◌⊎◌, ℕ, zero, suc, ◌<◌, Bool, true, false, Option, Some, None}
use Rattle.std.specs.Prelude.{Result, Ok, Err}
use Rattle.rp_base.specs.declared.fault.Fault.{Fault}
use Rattle.rp_codec.specs.declared.packet.Party.{Party}

-- no run is ever over: the only answer is that it goes on
abbrev pub IsNeverOver : (Party → ℕ → ℕ → Result Bool Fault → Type 0) → Type 0
IsNeverOver over =
    (actor : Party) (turn rested : ℕ) (answer : Result Bool Fault) → over actor turn rested answer
    → answer ≡ Ok false

-- the loop of this party was stopped by this fault: that was the answer before one of its turns
abbrev pub IsStoppedBy : (Party → ℕ → ℕ → Result Bool Fault → Type 0) → Party → Fault → Type 0
IsStoppedBy over actor fault = (turn : ℕ) × (rested : ℕ) × over actor turn rested (Err fault)

-- `over` is what is answered whether the run is over. An actor whose state is an `A` is this party,
-- has rested for so many turns once it made the first n, and makes a turn with this number from one
-- state to another if `Turned`.
module _ {A : Type 0} (over : Party → ℕ → ℕ → Result Bool Fault → Type 0) (party : A → Party)
    (rested : ℕ → A → ℕ) (Turned : ℕ → A → A → Type 0) where
  -- this was the answer before the turn after the first n
  abbrev pub IsAsked : ℕ → A → Result Bool Fault → Type 0
  IsAsked done now answer = over (party now) (suc done) (rested done now) answer

  -- One turn after the first n, before which the answer was that the run is not over.
  pub record IsNextTurn (done : ℕ) (old new : A) : Type 0 where
    pub asked : IsAsked done old (Ok false)
    pub turned : Turned (suc done) old new

  -- the turns 1 to n, one after the other
  abbrev pub AreTurns : A → ℕ → A → Type 0
  AreTurns first zero now = now ≡ first
  AreTurns first (suc n) now =
      (before : A) × AreTurns first n before × IsNextTurn n before now

  -- why no turn follows the first n, in this state: they are all, or the answer was then that the
  -- run is over
  abbrev pub IsLastTurn : ℕ → ℕ → A → Type 0
  IsLastTurn turns done now = (done ≡ turns) ⊎ ((done < turns) × IsAsked done now (Ok true))

  module _ (Unmade : ℕ → A → A → Fault → Type 0) where
    -- why a fault ended a loop after the first n turns: it was the answer, or the next turn was not
    -- made because of it
    abbrev pub IsFaulted : Fault → ℕ → A → A → Type 0
    IsFaulted fault done before last = ((last ≡ before) × IsAsked done before (Err fault))
        ⊎ (IsAsked done before (Ok false) × Unmade (suc done) before last fault)

    -- why a loop of at most n turns ended after some of them: by this fault, or without one
    abbrev pub EndsBy : Option Fault → ℕ → ℕ → A → A → Type 0
    EndsBy None turns done before last = (last ≡ before) × IsLastTurn turns done before
    EndsBy (Some fault) turns done before last = (done < turns) × IsFaulted fault done before last

    -- A loop of at most n turns went from the first state to the last: it made some turns, and ended
    -- by this fault or without one.
    pub record HasEnded (turns : ℕ) (first last : A) (fault : Option Fault) : Type 0 where
      pub done : ℕ
      pub before : A
      pub turned : AreTurns first done before
      pub ends : EndsBy fault turns done before last
