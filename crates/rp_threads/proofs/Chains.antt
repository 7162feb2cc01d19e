-- What holds of the turns of a loop, whoever makes them, by what holds of each.
use Rattle.std.proofs.Common.{◌≡◌, ℕ, zero, suc, ◌<◌, Bool, Option, Some, None, Result, Ok, Err, true, false, inl, inr, sym, ap, subst, ◌∙◌, arith}
use Rattle.rp_base.specs.declared.fault.Fault.{Fault}
use Rattle.rp_codec.specs.declared.packet.Party.{Party}
use Rattle.rp_threads.specs.LoopTurns.{AreTurns, EndsBy, HasEnded, IsAsked, IsFaulted, IsLastTurn, IsNeverOver}

-- What holds at first and is kept by each turn holds after all of them; and so does what follows of it at an end without a
-- fault, at one by the answer before a turn, and at one by the fault of a turn.
module _ {A : Type 0} (over : Party → ℕ → ℕ → Result Bool Fault → Type 0) (party : A → Party) (rested : ℕ → A → ℕ) (Turned : ℕ → A → A → Type 0) (Unmade : ℕ → A → A → Fault → Type 0)
    (Holds : ℕ → A → Type 0) (Left : ℕ → A → Option Fault → Type 0)
    (kept : (n : ℕ) (old new : A) → Holds n old → Turned (suc n) old new → Holds (suc n) new)
    (whole : (n : ℕ) (now : A) → Holds n now → Left n now None)
    (halted : (n : ℕ) (now : A) (fault : Fault) → Holds n now → IsAsked over party rested Turned n now (Err fault) → Left n now (Some fault))
    (stopped : (n : ℕ) (before last : A) (fault : Fault) → Holds n before → Unmade (suc n) before last fault → Left n last (Some fault)) where
  by_turns : (first : A) → Holds 0 first → (n : ℕ) (now : A) → AreTurns over party rested Turned first n now → Holds n now
  by_turns first holds zero now are = subst (Holds 0) (sym are) holds
  by_turns first holds (suc n) now are = kept n are.0 now (by_turns first holds n are.0 are.1) are.2.turned

  faulted_by : (fault : Fault) (done : ℕ) (before last : A) → Holds done before → IsFaulted over party rested Turned Unmade fault done before last → Left done last (Some fault)
  faulted_by fault done before last holds (inl answer) = subst (λ (now : A). Left done now (Some fault)) (sym answer.0) (halted done before fault holds answer.1)
  faulted_by fault done before last holds (inr unmade) = stopped done before last fault holds unmade.1

  left_by : (fault : Option Fault) (turns done : ℕ) (before last : A) → Holds done before → EndsBy over party rested Turned Unmade fault turns done before last → Left done last fault
  left_by None turns done before last holds ends = subst (λ (now : A). Left done now None) (sym ends.0) (whole done before holds)
  left_by (Some fault) turns done before last holds ends = faulted_by fault done before last holds ends.1

  pub by_end : (turns : ℕ) (first last : A) (fault : Option Fault) → Holds 0 first → (ended : HasEnded over party rested Turned Unmade turns first last fault) → Left ended.done last fault
  by_end turns first last fault holds ended = left_by fault turns ended.done ended.before last (by_turns first holds ended.done ended.before ended.turned) ended.ends

-- ---- where no run is ever over

module _ {A : Type 0} (over : Party → ℕ → ℕ → Result Bool Fault → Type 0) (party : A → Party) (rested : ℕ → A → ℕ) (Turned : ℕ → A → A → Type 0) (Unmade : ℕ → A → A → Fault → Type 0) where
  all_turns : (turns done : ℕ) (now : A) → IsNeverOver over → IsLastTurn over party rested Turned turns done now → done ≡ turns
  all_turns turns done now never (inl all) = all
  all_turns turns done now never (inr said) = let clash = never (party now) (suc done) (rested done now) (Ok true) said.1 in absurd (cc)

  none_left : (fault : Option Fault) (turns done : ℕ) (before last : A) → IsNeverOver over → fault ≡ None → EndsBy over party rested Turned Unmade fault turns done before last → done ≡ turns
  none_left None turns done before last never none ends = all_turns turns done before never ends.1
  none_left (Some fault) turns done before last never none ends = absurd (cc)

  pub made_all : (turns : ℕ) (first last : A) (fault : Option Fault) → IsNeverOver over → fault ≡ None → (ended : HasEnded over party rested Turned Unmade turns first last fault) → ended.done ≡ turns
  made_all turns first last fault never none ended = none_left fault turns ended.done ended.before last never none ended.ends

-- ---- the same turns, by what a definition sees of each state

-- a state is seen as a `B`, and what is fixed in a loop holds of it
module _ {A B : Type 0} (over : Party → ℕ → ℕ → Result Bool Fault → Type 0) (party : B → Party) (rested : ℕ → B → ℕ) (seen : A → B) (own_rested : ℕ → A → ℕ) (Fixed : A → Type 0)
    (rest : (done : ℕ) (now : A) → Fixed now → own_rested done now ≡ rested done (seen now))
    (Turned : ℕ → A → A → Type 0) (Unmade : ℕ → A → A → Fault → Type 0) (SeenTurned : ℕ → B → B → Type 0) (SeenUnmade : ℕ → B → B → Fault → Type 0)
    (turned : (turn : ℕ) (old new : A) → Fixed old → Turned turn old new → Fixed new × SeenTurned turn (seen old) (seen new))
    (unmade : (turn : ℕ) (old new : A) (fault : Fault) → Fixed old → Unmade turn old new fault → SeenUnmade turn (seen old) (seen new) fault) where
  abbrev own_party : A → Party
  own_party now = party (seen now)

  seen_asked : (done : ℕ) (now : A) (answer : Result Bool Fault) → Fixed now → IsAsked over own_party own_rested Turned done now answer → IsAsked over party rested SeenTurned done (seen now) answer
  seen_asked done now answer fixed asked = subst (λ (n : ℕ). over (own_party now) (suc done) n answer) (rest done now fixed) asked

  seen_turns : (first : A) → Fixed first → (n : ℕ) (now : A) → AreTurns over own_party own_rested Turned first n now → Fixed now × AreTurns over party rested SeenTurned (seen first) n (seen now)
  seen_turns first fixed zero now are = (subst Fixed (sym are) fixed, ap seen are)
  seen_turns first fixed (suc n) now are =
      let before = seen_turns first fixed n are.0 are.1 in
      let one = turned (suc n) are.0 now before.0 are.2.turned in
      (one.0, (seen are.0, before.1, record { asked = seen_asked n are.0 (Ok false) before.0 are.2.asked; turned = one.1 }))

  seen_last : (turns done : ℕ) (now : A) → Fixed now → IsLastTurn over own_party own_rested Turned turns done now → IsLastTurn over party rested SeenTurned turns done (seen now)
  seen_last turns done now fixed (inl all) = inl all
  seen_last turns done now fixed (inr said) = inr (said.0, seen_asked done now (Ok true) fixed said.1)

  seen_faulted : (fault : Fault) (done : ℕ) (before last : A) → Fixed before → IsFaulted over own_party own_rested Turned Unmade fault done before last
      → IsFaulted over party rested SeenTurned SeenUnmade fault done (seen before) (seen last)
  seen_faulted fault done before last fixed (inl answer) = inl (ap seen answer.0, seen_asked done before (Err fault) fixed answer.1)
  seen_faulted fault done before last fixed (inr none) = inr (seen_asked done before (Ok false) fixed none.0, unmade (suc done) before last fault fixed none.1)

  seen_ends : (fault : Option Fault) (turns done : ℕ) (before last : A) → Fixed before → EndsBy over own_party own_rested Turned Unmade fault turns done before last
      → EndsBy over party rested SeenTurned SeenUnmade fault turns done (seen before) (seen last)
  seen_ends None turns done before last fixed ends = (ap seen ends.0, seen_last turns done before fixed ends.1)
  seen_ends (Some fault) turns done before last fixed ends = (ends.0, seen_faulted fault done before last fixed ends.1)

  pub seen_ended : (turns : ℕ) (first last : A) (fault : Option Fault) → Fixed first → HasEnded over own_party own_rested Turned Unmade turns first last fault
      → HasEnded over party rested SeenTurned SeenUnmade turns (seen first) (seen last) fault
  seen_ended turns first last fault fixed ended =
      let before = seen_turns first fixed ended.done ended.before ended.turned in
      record { done = ended.done; before = seen ended.before; turned = before.1; ends = seen_ends fault turns ended.done ended.before last before.0 ended.ends }
