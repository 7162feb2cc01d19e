-- The rules of one protected object, in words of their own (Ada Reference Manual, sections 9.5.1,
-- 9.5.3 and 11.4). A barrier is read from the components, and no test of the rules is used here.
use Rattle.std.specs.Prelude.{◌≡◌, ◌≢◌, ◌<◌, ◌-◌, ℕ, ℤ, true, Option, Some, List, [], ◌∷◌, ◌++◌}
use Rattle.std.specs.FinMap.{get}
use Rattle.rp_object.specs.rp_base.specs.declared.reply.Reply.TheVariants.{Value, ConstraintError}
use Rattle.rp_object.specs.rp_base.specs.declared.reply.Answer.{Answer}
use Rattle.rp_object.specs.rp_body.specs.declared.statement.Stmt.{Stmt}
use Rattle.rp_object.specs.rp_body.specs.declared.statement.Outcome.{Outcome}
use Rattle.rp_object.specs.rp_body.specs.declared.statement.Outcome.TheVariants.{Out, Raised}
use Rattle.rp_object.specs.rp_body.specs.Store.{Store}
use Rattle.rp_object.specs.rp_body.specs.Meaning.{body_effect}
use Rattle.rp_object.specs.rp_entry.specs.declared.operations.Entry.{Entry}
use Rattle.rp_object.specs.rp_entry.specs.declared.operations.Operations.{Operations}
use Rattle.rp_object.specs.rp_entry.specs.declared.state.Waiting.{Waiting}
use Rattle.rp_object.specs.rp_entry.specs.declared.state.CallOutcome.{CallOutcome}
use Rattle.rp_object.specs.rp_entry.specs.declared.state.CallOutcome.TheVariants.{Reply}
use Rattle.rp_object.specs.rp_entry.specs.Operations.{of_index}
use Rattle.rp_object.specs.rp_entry.specs.Queue.{State, queue_at}
use Rattle.rp_object.specs.rp_entry.specs.Servicing.{Services}

-- what a body leaves, and how it ends
abbrev pub left_by : List Stmt → ℤ → State → Store
left_by body arg before = (body_effect body arg before.store).0

abbrev pub outcome_at_end : List Stmt → ℤ → State → Outcome
outcome_at_end body arg before = (body_effect body arg before.store).1

-- A body runs for its caller: that gets its out value, or Constraint_Error if it raised, and the
-- queues are serviced from the components that it left, whether it raised or not.
pub record RunsForCaller (operations : Operations) (body : List Stmt) (arg : ℤ) (before : State)
    (caller : Option CallOutcome)
    (replied : List Answer) (after : State) : Type 0 where
  pub value : (out : ℤ) → outcome_at_end body arg before ≡ Out out → caller ≡ Some (Reply (Value out))
  pub exception : outcome_at_end body arg before ≡ Raised → caller ≡ Some (Reply ConstraintError)
  pub serviced : Services operations (record before { store = left_by body arg before }) replied
      after

-- The call waits after the others of the entry of this index; nothing else changes.
pub record JoinsLast (index : ℕ) (call : Waiting) (before after : State) : Type 0 where
  pub last : queue_at after.queues (index - 1) ≡ queue_at before.queues (index - 1) ++ call ∷ []
  pub others : (place : ℕ) → place ≢ index - 1
      → queue_at after.queues place ≡ queue_at before.queues place
  pub store : after.store ≡ before.store

-- No entry whose barrier is True has a caller that waits.
abbrev pub NobodyWaitsAtOpen : Operations → State → Type 0
NobodyWaitsAtOpen operations state =
    (index : ℕ) (entry : Entry) → of_index operations.entries.items index ≡ Some entry
    → get state.store.bools entry.barrier ≡ Some true → queue_at state.queues (index - 1) ≡ []

-- The entry of this index has a True barrier, and this is the first of the calls that wait there.
pub record IsNextAt (operations : Operations) (state : State) (index : ℕ) (entry : Entry)
    (call : Waiting)
    (rest : List Waiting) : Type 0 where
  pub declared : of_index operations.entries.items index ≡ Some entry
  pub barrier : get state.store.bools entry.barrier ≡ Some true
  pub waits : queue_at state.queues (index - 1) ≡ call ∷ rest

-- no entry that was declared before it is so
abbrev pub IsFirstOpen : Operations → State → ℕ → Type 0
IsFirstOpen operations state index =
    (lower : ℕ) (entry : Entry) (call : Waiting) (rest : List Waiting) → lower < index
    → ¬ IsNextAt operations state lower entry call rest

-- The call is served first: its entry's body runs with its argument, it gets that body's out value
-- or exception, and servicing goes on from what this leaves, without it in its queue.
pub record IsServedFirst (operations : Operations) (before : State) (index : ℕ) (entry : Entry)
    (call : Waiting)
    (rest : List Waiting) (replied : List Answer) (after : State) : Type 0 where
  pub answer : Answer
  pub others : List Answer
  pub between : State
  pub first : replied ≡ answer ∷ others
  pub task : answer.task ≡ call.task
  pub number : answer.number ≡ call.number
  pub value : (out : ℤ) → outcome_at_end entry.body.items call.arg before ≡ Out out
      → answer.reply ≡ Value out
  pub exception : outcome_at_end entry.body.items call.arg before ≡ Raised → answer.reply ≡ ConstraintError
  pub store : between.store ≡ left_by entry.body.items call.arg before
  pub queue : queue_at between.queues (index - 1) ≡ rest
  pub unchanged : (place : ℕ) → place ≢ index - 1
      → queue_at between.queues place ≡ queue_at before.queues place
  pub goes_on : Services operations between others after
