-- What is reported of a step.
use Rattle.std.proofs.Common.{◌≡◌, ℕ, ◌+◌, ◌-◌, ◌^◌, min, Option, None, Result, Ok, Err, sym, subst}
use Rattle.std.specs.Prelude.{IsErrAnd}
use Rattle.rp_base.specs.declared.fault.Fault.{Fault}
use Rattle.rp_model.specs.Answers.{Describes}
use Rattle.rp_model.specs.declared.effect.Dropped.{Dropped}
use Rattle.rp_model.specs.declared.effect.Dropped.TheVariants.{No}
use Rattle.rp_model.specs.declared.effect.Effect.{Effect}
use Rattle.rp_model.specs.World.{Transition}

-- an effect that reports nothing but what a restart found
abbrev pub stated_of : ℕ → Option (ℕ × ℕ) → Effect
stated_of first opened = record { first = first; sent = 0; dropped = No; taken = None; opened = opened }

-- one that reports n messages and nothing else
abbrev pub stated_count : ℕ → ℕ → Effect
stated_count first sent = record { first = first; sent = sent; dropped = No; taken = None; opened = None }

-- one that reports what a node's step sent, where this is the number of messages after it
abbrev pub stated_sent : ℕ → ℕ → Dropped → Effect
stated_sent first count dropped = record { first = first; sent = min (count + 1 - first) (2 ^ 32 - 1); dropped = dropped; taken = None; opened = None }

-- the answer that is this fault
abbrev pub as_fault : Fault → Result Effect Fault
as_fault fault = Err fault

-- an effect describes a transition as the one does that it is
pub describes_of : {sent : ℕ} {transition : Transition} {stated other : Effect} → stated ≡ other → Describes sent transition other → Describes sent transition stated
describes_of {sent = sent} {transition = transition} is describes = subst (Describes sent transition) (sym is) describes

-- what holds at a fault holds of the result that is that fault
pub at_err : {A : Type 0} (Q : Result A Fault → Type 0) (fault : Fault) (r : Result A Fault) → IsErrAnd r (λ e. e ≡ fault) → Q (Err fault) → Q r
at_err Q fault (Ok x) is q = absurd is
at_err Q fault (Err other) is q = subst (λ (e : Fault). Q (Err e)) (sym is) q
