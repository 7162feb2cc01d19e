-- The result of a protected action, as a function of the operations, the state and the request: the
-- result of exactly the actions of Actions (stated in our way).
use Rattle.std.specs.Prelude.{ℕ, zero, suc, ◌-◌, ℤ, pos, nat_lt, List, [], ◌∷◌, length, Option}
use Rattle.std.specs.Prelude.{Some, None, Vec, if◌then◌else◌}
use Rattle.std.specs.declared.alloc.Global.{Global}
use Rattle.rp_base.specs.declared.reply.Reply.TheVariants.{ProgramError, NoSuchOperation}
use Rattle.rp_base.specs.declared.reply.Answer.{Answer}
use Rattle.rp_body.specs.declared.statement.Stmt.{Stmt}
use Rattle.rp_body.specs.Store.{Store, bool_value}
use Rattle.rp_body.specs.Meaning.{body_effect}
use Rattle.rp_entry.specs.declared.operations.Function.{Function}
use Rattle.rp_entry.specs.declared.operations.Entry.{Entry}
use Rattle.rp_entry.specs.declared.operations.Operations.{Operations}
use Rattle.rp_entry.specs.declared.state.Waiting.{Waiting}
use Rattle.rp_entry.specs.declared.state.CallOutcome.{CallOutcome}
use Rattle.rp_entry.specs.declared.state.CallOutcome.TheVariants.{Reply, Waits}
use Rattle.rp_entry.specs.Operations.{of_index}
use Rattle.rp_entry.specs.Queue.{State, queue_at, all_calls}
use Rattle.rp_entry.specs.Replies.{reply_of, function_reply}
use Rattle.rp_entry.specs.Actions.{Request, calls_function, calls_procedure, calls_entry, event}
use Rattle.rp_entry.specs.Actions.{with_caller}

-- the outcome of the caller, if there is one, the answers of the callers that were served, and the
-- state after
pub record Acted : Type 0 where
  pub caller : Option CallOutcome
  pub replied : List Answer
  pub after : State

-- nobody is served, and the state is this one
abbrev pub replies_with : CallOutcome → State → Acted
replies_with outcome state = record { caller = Some outcome; replied = []; after = state }

-- the call to be served next, its entry, and the queues without it
pub record Next : Type 0 where
  pub entry : Entry
  pub call : Waiting
  pub left : List (List Waiting)

-- the same, with the queue of an entry before the others
abbrev pub with_queue_first : List Waiting → Option Next → Option Next
with_queue_first queue None = None
with_queue_first queue (Some next) = Some (record next { left = queue ∷ next.left })

-- the call to be served next at these components, if there is one: the first of the first open
-- entry that has a caller
abbrev pub next_to_serve : Store → List Entry → List (List Waiting) → Option Next
next_to_serve store [] queues = None
next_to_serve store (entry ∷ entries) [] = None
next_to_serve store (entry ∷ entries) ([] ∷ queues) =
    with_queue_first [] (next_to_serve store entries queues)
next_to_serve store (entry ∷ entries) ((call ∷ rest) ∷ queues) =
    if bool_value store entry.barrier
    then Some (record { entry = entry; call = call; left = rest ∷ queues })
    else with_queue_first (call ∷ rest) (next_to_serve store entries queues)

-- the answers given, and the state in which servicing ends
abbrev pub Serviced : Type 0
Serviced = List Answer × State

-- the body runs for the call, if there is one, and servicing goes on with what that leaves
abbrev pub served : (Store → List (List Waiting) → Serviced) → Store → List (List Waiting)
    → Option Next → Serviced
served later store queues None = ([], record { store = store; queues = queues })
served later store queues (Some next) =
    let ran = body_effect next.entry.body.items next.call.arg store in
    let others = later ran.0 next.left in (
      record { task = next.call.task; number = next.call.number; reply = reply_of ran.1 } ∷ others.0,
      others.1,
    )

-- servicing of queues in which no more than n calls wait, at these components
abbrev pub serviced_from : ℕ → List Entry → Store → List (List Waiting) → Serviced
serviced_from zero entries store queues = ([], record { store = store; queues = queues })
serviced_from (suc most) entries store queues =
    served (serviced_from most entries) store queues (next_to_serve store entries queues)

-- servicing of all calls that wait
abbrev pub serviced : Operations → Store → List (List Waiting) → Serviced
serviced operations store queues =
    serviced_from (length (all_calls queues)) operations.entries.items store queues

-- a body runs for a caller, if there is one, and the queues are serviced
abbrev pub ran_for : (CallOutcome → Option CallOutcome) → Operations → List Stmt → ℤ → State → Acted
ran_for caller operations body arg before =
    let ran = body_effect body arg before.store in
    let left = serviced operations ran.0 before.queues in
    record { caller = caller (Reply (reply_of ran.1)); replied = left.0; after = left.1 }

-- a call of a function, if there is one of this index
abbrev pub function_called : Option Function → ℤ → State → Acted
function_called None arg before = replies_with (Reply NoSuchOperation) before
function_called (Some called) arg before =
    replies_with (Reply (function_reply called before.store arg)) before

-- a call of a procedure, if there is one of this index
abbrev pub procedure_called : Operations → Option (Vec Stmt Global) → ℤ → State → Acted
procedure_called operations None arg before = replies_with (Reply NoSuchOperation) before
procedure_called operations (Some body) arg before =
    ran_for (λ outcome. Some outcome) operations body.items arg before

-- a call of an entry, if there is one of this index
abbrev pub entry_called : Operations → Option Entry → ℕ → Waiting → State → Acted
entry_called operations None index call before = replies_with (Reply NoSuchOperation) before
entry_called operations (Some entry) index call before =
    if bool_value before.store entry.barrier
    then ran_for (λ outcome. Some outcome) operations entry.body.items call.arg before
    else if nat_lt (length (queue_at before.queues (index - 1))) entry.longest
    then replies_with Waits (with_caller before index call)
    else replies_with (Reply ProgramError) before

-- an event, if it has a handler
abbrev pub event_handled : Operations → Option (Vec Stmt Global) → State → Acted
event_handled operations None before = record { caller = None; replied = []; after = before }
event_handled operations (Some body) before =
    ran_for (λ outcome. None) operations body.items (pos 0) before

-- the result of the action of a request
abbrev pub acted : Operations → State → Request → Acted
acted operations before (calls_function index arg) =
    function_called (of_index operations.functions.items index) arg before
acted operations before (calls_procedure index arg) =
    procedure_called operations (of_index operations.procedures.items index) arg before
acted operations before (calls_entry index call) =
    entry_called operations (of_index operations.entries.items index) index call before
acted operations before (event index) =
    event_handled operations (of_index operations.procedures.items index) before
