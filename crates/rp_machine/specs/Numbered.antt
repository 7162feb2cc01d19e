-- A machine after a log, which lets each call count once.
use Rattle.std.specs.Prelude.{◌≡◌, ℕ, ◌-◌, ◌≤◌, Some, None, List, [], ◌∷◌, length, slice_set}
use Rattle.std.specs.Prelude.{slice_index_or}
use Rattle.rp_base.specs.Action.{IsRight}
use Rattle.rp_base.specs.Sets.{Has}
use Rattle.rp_base.specs.declared.action.Action.{Action}
use Rattle.rp_base.specs.declared.action.Action.TheVariants.{Noop, Call, Interrupt, Tick}
use Rattle.rp_base.specs.declared.reply.Answer.{Answer}
use Rattle.rp_machine.specs.Replay.{Replayed, replay_of}
use Rattle.rp_machine.specs.Asked.{last_number, last_occurrence, kept_reply}
use Rattle.rp_machine.specs.declared.numbered.Caller.{Caller}

-- a machine after a log, to a contract: its start, and the actions that were applied to it
pub record Applied (S : Type 0) : Type 0 where
  pub begin : S
  pub actions : List Action

module _ {S : Type 0} (next : S → Action → S) (answers : S → Action → List Answer) where
  -- the result of these actions
  abbrev pub outcome : Applied S → Replayed S
  outcome applied = replay_of next answers applied.begin applied.actions

-- ---- how memory holds it (no public clause names what follows)

-- what is kept of a task's calls
abbrev pub caller_of : ℕ → List Action → List Answer → Caller
caller_of task kept given =
    record {
      last = last_number task kept;
      reply = kept_reply task (last_number task kept) kept given;
    }

-- there is one for each task
abbrev pub AreCallers : List Caller → List Action → List Answer → Type 0
AreCallers callers kept given =
    (task : ℕ) (other : Caller) → 1 ≤ task → task ≤ 8
    → slice_index_or callers (task - 1) other ≡ caller_of task kept given

-- and the last occurrence of each source
abbrev pub AreOccurrences : List ℕ → List Action → Type 0
AreOccurrences occurrences kept =
    (source other : ℕ) → 1 ≤ source → source ≤ 8
    → slice_index_or occurrences (source - 1) other ≡ last_occurrence source kept

-- right actions led to this machine, these callers and these occurrences
pub record IsNumbered {S : Type 0} (r : Replayed S) (actions : List Action) (machine : S)
    (callers : List Caller)
    (occurrences : List ℕ) : Type 0 where
  pub right : (action : Action) → Has action actions → IsRight action
  pub state : machine ≡ r.state
  pub room : length callers ≡ 8
  pub calls : AreCallers callers r.kept r.given
  pub interrupts : AreOccurrences occurrences r.kept

-- what is kept of a call that waits
abbrev pub waiting_caller : ℕ → Caller
waiting_caller number = record { last = number; reply = None }

-- a call that counts waits
abbrev pub with_action : List Caller → Action → List Caller
with_action callers Noop = callers
with_action callers (Call task number object operation arg) =
    slice_set callers (task - 1) (waiting_caller number)
with_action callers (Interrupt source occurrence) = callers
with_action callers (Tick now) = callers

-- an interrupt that counts is the last of its source
abbrev pub with_occurrence : List ℕ → Action → List ℕ
with_occurrence occurrences Noop = occurrences
with_occurrence occurrences (Call task number object operation arg) = occurrences
with_occurrence occurrences (Interrupt source occurrence) =
    slice_set occurrences (source - 1) occurrence
with_occurrence occurrences (Tick now) = occurrences

-- an answer is the reply to its task's last call
abbrev pub with_answer : List Caller → Answer → List Caller
with_answer callers answer =
    let place = answer.task - 1 in
    let caller = slice_index_or callers place (waiting_caller 0) in
    slice_set callers place (record caller { reply = Some answer.reply })

-- one answer after another
abbrev pub with_answers : List Caller → List Answer → List Caller
with_answers callers [] = callers
with_answers callers (answer ∷ rest) = with_answers (with_answer callers answer) rest
