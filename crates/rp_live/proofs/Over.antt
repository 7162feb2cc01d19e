-- Why a loop of a run ended.
use Rattle.std.proofs.Common.{◌≡◌, ◌⊎◌, ℕ, ◌+◌, ◌-◌, ◌≤◌, ◌<◌, not, ◌&&◌, nat_eq, Bool, true, false, Option, Some, None, List, length, inl, inr, sym, ap, subst, ◌∙◌, arith, if◌then◌else◌}
use Rattle.std.proofs.lemmas.Bool.{eqb-true}
use Rattle.std.specs.Prelude.{IfSome}
use Rattle.rp_threads.specs.rp_base.specs.declared.fault.Fault.{Fault}
use Rattle.rp_threads.specs.rp_base.specs.declared.fault.Fault.TheVariants.{OutOfMemory}
use Rattle.rp_threads.specs.rp_codec.specs.declared.packet.Party.{Party}
use Rattle.rp_board.specs.Parts.{Role, task_of}
use Rattle.rp_board.specs.Seats.{SeatState}
use Rattle.rp_threads.specs.LoopTurns.{EndsBy, IsLastTurn, IsStoppedBy}
use Rattle.rp_threads.specs.Rounds.{IsNodeFault, NodeAt, node_party, node_rested}
use Rattle.rp_threads.specs.Tasks.{HasMade, TaskAt, task_party}
use Rattle.rp_threads.specs.TaskRounds.{has_all_replies, task_rested}
use Rattle.rp_threads.specs.declared.tasks.TaskCall.{TaskCall}
use Rattle.rp_live.specs.Pace.{calm_turns, over}

-- a run is stopped only where memory ran out, which may end any node's loop
pub own_cause : {P : Type 0} (first last : SeatState P) (actor : Party) (fault : Option Fault) → IfSome fault (λ f. IsNodeFault first last f ⊎ IsStoppedBy over actor f) → IfSome fault (IsNodeFault first last)
own_cause first last actor None cause = tt
own_cause first last actor (Some fault) (inl own) = own
own_cause first last actor (Some fault) (inr halted) = subst (IsNodeFault first last) (sym halted.2) tt

-- ---- nodes

module _ {P : Type 0} (Turned : ℕ → NodeAt P → NodeAt P → Type 0) (Unmade : ℕ → NodeAt P → NodeAt P → Fault → Type 0) where
  node_rested_at : (turns done : ℕ) (before : NodeAt P) → IsLastTurn over node_party node_rested Turned turns done before → (done ≡ turns) ⊎ (calm_turns ≤ done - before.stirred)
  node_rested_at turns done before (inl all) = inl all
  node_rested_at turns done before (inr said) = inr said.1

  pub node_over : (fault : Option Fault) (turns done : ℕ) (before last : NodeAt P) → EndsBy over node_party node_rested Turned Unmade fault turns done before last → fault ≡ None
      → (done ≡ turns) ⊎ (calm_turns ≤ done - last.stirred)
  node_over None turns done before last ends none =
      subst (λ (n : NodeAt P). (done ≡ turns) ⊎ (calm_turns ≤ done - n.stirred)) (sym ends.0) (node_rested_at turns done before ends.1)
  node_over (Some fault) turns done before last ends none = absurd (cc)

-- ---- tasks

some_if : (b : Bool) (n : ℕ) → calm_turns ≤ (if b then n else 0) → b ≡ true
some_if true n long = refl_true
  where
    refl_true : true ≡ true
    refl_true = cc
some_if false n long = absurd (omega (arith, long))

both_true : (a b : Bool) → (not a && b) ≡ true → (a ≡ false) × (b ≡ true)
both_true true b is = absurd (cc)
both_true false true is = (cc, cc)
both_true false false is = absurd (cc)

module _ {P : Type 0} (calls : List TaskCall) (Turned : ℕ → TaskAt P → TaskAt P → Type 0) (Unmade : ℕ → TaskAt P → TaskAt P → Fault → Type 0) where
  task_rested_at : (turns done : ℕ) (before : TaskAt P) → IsLastTurn over task_party (task_rested calls) Turned turns done before → (done ≡ turns) ⊎ (has_all_replies calls before.so_far ≡ true)
  task_rested_at turns done before (inl all) = inl all
  task_rested_at turns done before (inr said) = inr (some_if (has_all_replies calls before.so_far) (done - before.so_far.last_reply) said.1)

  pub task_over : (fault : Option Fault) (turns done : ℕ) (before last : TaskAt P) → EndsBy over task_party (task_rested calls) Turned Unmade fault turns done before last → fault ≡ None
      → (done ≡ turns) ⊎ (has_all_replies calls last.so_far ≡ true)
  task_over None turns done before last ends none =
      subst (λ (n : TaskAt P). (done ≡ turns) ⊎ (has_all_replies calls n.so_far ≡ true)) (sym ends.0) (task_rested_at turns done before ends.1)
  task_over (Some fault) turns done before last ends none = absurd (cc)

-- a task that has all replies made all its calls, and has as many replies
pub all_replied : {P : Type 0} (calls : List TaskCall) (seat : SeatState P) (made : ℕ) (waits : Bool) → HasMade calls seat made waits → (not waits && nat_eq made (length calls)) ≡ true
    → (made ≡ length calls) × (length (task_of seat.part.role).replies ≡ made)
all_replied calls seat made waits has all =
    let both = both_true waits (nat_eq made (length calls)) all in
    let count : length has.task.replies + 0 ≡ made = subst (λ (w : Bool). length has.task.replies + (if w then 1 else 0) ≡ made) both.0 has.count in
    (eqb-true _ _ both.1, ap (λ (r : Role). length (task_of r).replies) has.is ∙ (let e : length has.task.replies ≡ made = omega (arith, count) in e))
