-- Calls, which of them wait, and which an action answers.
use Rattle.std.specs.Prelude.{◌≢◌, ℕ, ◌↔◌, List, [], ◌∷◌, ◌++◌, map}
use Rattle.rp_base.specs.Sets.{Has, IsSet}
use Rattle.rp_base.specs.declared.action.Action.{Action}
use Rattle.rp_base.specs.declared.action.Action.TheVariants.{Noop, Call, Interrupt, Tick}
use Rattle.rp_base.specs.declared.reply.Answer.{Answer}

-- a call by its task and its number
pub record CallName : Type 0 where
  pub task : ℕ
  pub number : ℕ

-- the call that an action is
abbrev pub calls_of : Action → List CallName
calls_of Noop = []
calls_of (Call task number object operation arg) = record { task = task; number = number } ∷ []
calls_of (Interrupt source occurrence) = []
calls_of (Tick now) = []

-- the calls among some actions, in order
abbrev pub calls_made : List Action → List CallName
calls_made [] = []
calls_made (action ∷ rest) = calls_of action ++ calls_made rest

-- the call that an answer is for
abbrev pub call_of : Answer → CallName
call_of answer = record { task = answer.task; number = answer.number }

-- no call of the action's task waits (a task makes its next call after the reply)
abbrev pub MayApply : List CallName → Action → Type 0
MayApply waiting action = (own other : CallName) → Has own (calls_of action) → Has other waiting
    → own.task ≢ other.task

-- An action's answers are for distinct calls, its own or ones that waited, and exactly the others
-- of these wait after it (Ada Reference Manual, 9.5.3).
pub record AccountsFor (before : List CallName) (action : Action) (answers : List Answer)
    (after : List CallName) : Type 0 where
  pub distinct : IsSet (map call_of answers)
  pub known : (call : CallName) → Has call (map call_of answers)
      → Has call (calls_of action ++ before)
  pub waits : (call : CallName)
      → Has call after ↔ (Has call (calls_of action ++ before) × (¬ Has call (map call_of answers)))
