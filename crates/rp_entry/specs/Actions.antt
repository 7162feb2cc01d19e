-- The protected actions of an object (Ada Reference Manual, sections 9.5.1 and 9.5.3).
use Rattle.std.specs.Prelude.{◌≡◌, ℕ, ◌-◌, ℤ, pos, ◌<◌, ◌≤◌, List, [], ◌∷◌, ◌++◌, length, Option}
use Rattle.std.specs.Prelude.{Some, None, Vec, slice_set}
use Rattle.std.specs.declared.alloc.Global.{Global}
use Rattle.rp_base.specs.declared.reply.Reply.TheVariants.{ProgramError, NoSuchOperation}
use Rattle.rp_base.specs.declared.reply.Answer.{Answer}
use Rattle.rp_body.specs.declared.statement.Stmt.{Stmt}
use Rattle.rp_body.specs.declared.statement.Outcome.{Outcome}
use Rattle.rp_body.specs.Store.{Store}
use Rattle.rp_body.specs.Meaning.{body_effect}
use Rattle.rp_entry.specs.declared.operations.Function.{Function}
use Rattle.rp_entry.specs.declared.operations.Entry.{Entry}
use Rattle.rp_entry.specs.declared.operations.Operations.{Operations}
use Rattle.rp_entry.specs.declared.state.Waiting.{Waiting}
use Rattle.rp_entry.specs.declared.state.CallOutcome.{CallOutcome}
use Rattle.rp_entry.specs.declared.state.CallOutcome.TheVariants.{Reply, Waits}
use Rattle.rp_entry.specs.Operations.{of_index}
use Rattle.rp_entry.specs.Queue.{State, IsOpen, queue_at}
use Rattle.rp_entry.specs.Replies.{reply_of, function_reply}
use Rattle.rp_entry.specs.Servicing.{Services}

-- What an object is asked for: a call of a function, a procedure or an entry, or an event, an
-- interrupt or the time of a timing event, whose handler is a procedure.
pub data Request : Type 0 where
  calls_function : (index : ℕ) (arg : ℤ) → Request
  calls_procedure : (index : ℕ) (arg : ℤ) → Request
  calls_entry : (index : ℕ) (call : Waiting) → Request
  event : (handler : ℕ) → Request

-- A body runs, its caller gets the result, and the queues are serviced before the action ends
-- (section 9.5.3). So it is also where the body raised an exception; what it assigned before stays.
pub record Runs (operations : Operations) (body : List Stmt) (arg : ℤ) (before : State)
    (outcome : CallOutcome)
    (served : List Answer) (after : State) : Type 0 where
  pub store : Store
  pub ended : Outcome
  pub run : body_effect body arg before.store ≡ (store, ended)
  pub replied : outcome ≡ Reply (reply_of ended)
  pub serviced : Services operations (record { store = store; queues = before.queues }) served after

-- the state in which the call waits after the others of the entry of this index, counted from 1
abbrev pub with_caller : State → ℕ → Waiting → State
with_caller before index call =
    record before {
      queues = slice_set before.queues (index - 1)
          (queue_at before.queues (index - 1) ++ call ∷ []);
    }

-- One protected action: from a state and a request to the outcome of the caller, if there is one,
-- the answers of the callers that were served, and the state after it.
pub data Acts (operations : Operations) (before : State) : Request → Option CallOutcome
    → List Answer → State
    → Type 0 where
  -- in a function the object is constant (9.5.1), and no queue is serviced after it (9.5.3)
  function : {index : ℕ} {arg : ℤ} {called : Function}
      → of_index operations.functions.items index ≡ Some called
      → Acts operations before (calls_function index arg)
      (Some (Reply (function_reply called before.store arg))) [] before
  -- a procedure runs (9.5.1)
  procedure : {index : ℕ} {arg : ℤ} {body : Vec Stmt Global} {outcome : CallOutcome}
      {served : List Answer}
      {after : State}
      → of_index operations.procedures.items index ≡ Some body
      → Runs operations body.items arg before outcome served after
      → Acts operations before (calls_procedure index arg) (Some outcome) served after
  -- a call of an open entry runs at once (9.5.3)
  open_entry : {index : ℕ} {call : Waiting} {entry : Entry} {outcome : CallOutcome}
      {served : List Answer}
      {after : State}
      → of_index operations.entries.items index ≡ Some entry
      → IsOpen entry before.store
      → Runs operations entry.body.items call.arg before outcome served after
      → Acts operations before (calls_entry index call) (Some outcome) served after
  -- at a closed one it waits after the others of that entry (9.5.3)
  closed_entry : {index : ℕ} {call : Waiting} {entry : Entry}
      → of_index operations.entries.items index ≡ Some entry
      → ¬ IsOpen entry before.store
      → length (queue_at before.queues (index - 1)) < entry.longest
      → Acts operations before (calls_entry index call) (Some Waits) []
      (with_caller before index call)
  -- a call beyond the greatest length of the queue gets Program_Error, and the others go on waiting
  -- (D.7)
  full_queue : {index : ℕ} {call : Waiting} {entry : Entry}
      → of_index operations.entries.items index ≡ Some entry
      → ¬ IsOpen entry before.store
      → entry.longest ≤ length (queue_at before.queues (index - 1))
      → Acts operations before (calls_entry index call) (Some (Reply ProgramError)) [] before
  -- a handler runs with no caller, and an exception that it raises has no effect of its own (C.3,
  -- D.15); its argument 0 is ours
  handler : {index : ℕ} {body : Vec Stmt Global} {outcome : CallOutcome} {served : List Answer}
      {after : State}
      → of_index operations.procedures.items index ≡ Some body
      → Runs operations body.items (pos 0) before outcome served after
      → Acts operations before (event index) None served after
  -- what the object does not have changes nothing
  no_function : {index : ℕ} {arg : ℤ}
      → of_index operations.functions.items index ≡ None
      → Acts operations before (calls_function index arg) (Some (Reply NoSuchOperation)) [] before
  no_procedure : {index : ℕ} {arg : ℤ}
      → of_index operations.procedures.items index ≡ None
      → Acts operations before (calls_procedure index arg) (Some (Reply NoSuchOperation)) [] before
  no_entry : {index : ℕ} {call : Waiting}
      → of_index operations.entries.items index ≡ None
      → Acts operations before (calls_entry index call) (Some (Reply NoSuchOperation)) [] before
  no_handler : {index : ℕ}
      → of_index operations.procedures.items index ≡ None
      → Acts operations before (event index) None [] before
