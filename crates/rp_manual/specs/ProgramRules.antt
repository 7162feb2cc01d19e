-- The rules of a program's calls, timing events and interrupts, in words of their own (Ada Reference
-- Manual, sections 9.5.3, C.3, D.3 and D.15).
use Rattle.std.specs.Prelude.{◌≡◌, ◌≢◌, ℕ, ℤ, Option, Some, None, List, [], ◌∷◌}
use Rattle.rp_object.specs.rp_base.specs.declared.action.Action.TheVariants.{Call}
use Rattle.rp_object.specs.rp_base.specs.declared.action.Operation.{Operation}
use Rattle.rp_object.specs.rp_base.specs.declared.action.Operation.TheVariants.{Function, Procedure}
use Rattle.rp_object.specs.rp_base.specs.declared.action.Operation.TheVariants.{Entry}
use Rattle.rp_object.specs.rp_base.specs.declared.action.Operation.TheVariants.{SetTimer}
use Rattle.rp_object.specs.rp_base.specs.declared.action.Operation.TheVariants.{CancelTimer}
use Rattle.rp_object.specs.rp_base.specs.declared.reply.Reply.{Reply}
use Rattle.rp_object.specs.rp_base.specs.declared.reply.Answer.{Answer}
use Rattle.rp_object.specs.rp_entry.specs.declared.operations.Operations.{Operations}
use Rattle.rp_object.specs.rp_entry.specs.declared.state.Waiting.{Waiting}
use Rattle.rp_object.specs.rp_entry.specs.declared.state.CallOutcome.{CallOutcome}
use Rattle.rp_object.specs.rp_entry.specs.declared.state.CallOutcome.TheVariants.{Reply as Replies}
use Rattle.rp_object.specs.rp_entry.specs.declared.state.CallOutcome.TheVariants.{Waits}
use Rattle.rp_object.specs.rp_entry.specs.Operations.{of_index}
use Rattle.rp_object.specs.rp_entry.specs.Queue.{State}
use Rattle.rp_object.specs.rp_entry.specs.Protected.{Protected}
use Rattle.rp_object.specs.rp_entry.specs.Actions.{Request, Acts, calls_function, calls_procedure}
use Rattle.rp_object.specs.rp_entry.specs.Actions.{calls_entry}
use Rattle.rp_object.specs.declared.program.ObjectDeclaration.{ObjectDeclaration}
use Rattle.rp_object.specs.declared.program.TimingEvent.{TimingEvent}
use Rattle.rp_object.specs.declared.program.Declarations.{Declarations}
use Rattle.rp_object.specs.Program.{operations_of}
use Rattle.rp_object.specs.State.{Running}
use Rattle.rp_object.specs.Step.{objects_next, objects_answers}

-- the operations have this one; setting and cancelling a timing event is no operation of an object
abbrev pub Offers : Operations → Operation → Type 0
Offers operations (Function index) = of_index operations.functions.items index ≢ None
Offers operations (Procedure index) = of_index operations.procedures.items index ≢ None
Offers operations (Entry index) = of_index operations.entries.items index ≢ None
Offers operations (SetTimer index) = ⊥
Offers operations (CancelTimer index) = ⊥

-- what a call of an object's operation asks the object for
abbrev pub IsRequestOf : Operation → Waiting → Request → Type 0
IsRequestOf (Function index) call request = request ≡ calls_function index call.arg
IsRequestOf (Procedure index) call request = request ≡ calls_procedure index call.arg
IsRequestOf (Entry index) call request = request ≡ calls_entry index call
IsRequestOf (SetTimer index) call request = ⊥
IsRequestOf (CancelTimer index) call request = ⊥

-- The task has this base priority, and the object, which has this declaration, offers the operation.
pub record IsDeclaredCall (program : Declarations) (task priority object : ℕ)
    (declared : ObjectDeclaration)
    (operation : Operation) : Type 0 where
  pub task_is : of_index program.priorities.items task ≡ Some priority
  pub object_is : of_index program.objects.items object ≡ Some declared
  pub offers : Offers (operations_of declared) operation

-- Something of the call is not declared: its task, its object, the operation there, or the timing
-- event, which has to be one whose handler is of that object.
pub data IsUndeclared (program : Declarations) (task object : ℕ) : Operation → Type 0 where
  no_task : {operation : Operation} → of_index program.priorities.items task ≡ None
      → IsUndeclared program task object operation
  no_object_function : {index : ℕ} → of_index program.objects.items object ≡ None
      → IsUndeclared program task object (Function index)
  no_object_procedure : {index : ℕ} → of_index program.objects.items object ≡ None
      → IsUndeclared program task object (Procedure index)
  no_object_entry : {index : ℕ} → of_index program.objects.items object ≡ None
      → IsUndeclared program task object (Entry index)
  no_function : {index : ℕ} {declared : ObjectDeclaration}
      → of_index program.objects.items object ≡ Some declared
      → of_index (operations_of declared).functions.items index ≡ None
      → IsUndeclared program task object (Function index)
  no_procedure : {index : ℕ} {declared : ObjectDeclaration}
      → of_index program.objects.items object ≡ Some declared
      → of_index (operations_of declared).procedures.items index ≡ None
      → IsUndeclared program task object (Procedure index)
  no_entry : {index : ℕ} {declared : ObjectDeclaration}
      → of_index program.objects.items object ≡ Some declared
      → of_index (operations_of declared).entries.items index ≡ None
      → IsUndeclared program task object (Entry index)
  no_event_to_set : {index : ℕ} → of_index program.timers.items index ≡ None
      → IsUndeclared program task object (SetTimer index)
  no_event_to_cancel : {index : ℕ} → of_index program.timers.items index ≡ None
      → IsUndeclared program task object (CancelTimer index)
  other_event_to_set : {index : ℕ} {timer : TimingEvent}
      → of_index program.timers.items index ≡ Some timer → timer.handler.object ≢ object
      → IsUndeclared program task object (SetTimer index)
  other_event_to_cancel : {index : ℕ} {timer : TimingEvent}
      → of_index program.timers.items index ≡ Some timer → timer.handler.object ≢ object
      → IsUndeclared program task object (CancelTimer index)

-- The call gets this reply at once, nobody else gets one, and nothing changes.
pub record IsRefusedWith (running : Running) (call : Waiting) (object : ℕ) (operation : Operation)
    (reply : Reply)
    : Type 0 where
  pub unchanged : objects_next running (Call call.task call.number object operation call.arg)
      ≡ running
  pub replied : objects_answers running (Call call.task call.number object operation call.arg)
      ≡ record { task = call.task; number = call.number; reply = reply } ∷ []

-- The object of this number is this one, and nothing else has changed.
pub record ChangesObject (number : ℕ) (object : Protected) (before after : Running) : Type 0 where
  pub changed : of_index after.state.objects number ≡ Some object
  pub others : (other : ℕ) → other ≢ number
      → of_index after.state.objects other ≡ of_index before.state.objects other
  pub timers : after.state.timers ≡ before.state.timers
  pub clock : after.state.clock ≡ before.state.clock
  pub program : after.program ≡ before.program

-- The timing event of this number is set for this time, or not set, and nothing else has changed.
pub record ChangesTimer (number : ℕ) (time : Option ℤ) (before after : Running) : Type 0 where
  pub changed : of_index after.state.timers number ≡ Some time
  pub others : (other : ℕ) → other ≢ number
      → of_index after.state.timers other ≡ of_index before.state.timers other
  pub objects : after.state.objects ≡ before.state.objects
  pub clock : after.state.clock ≡ before.state.clock
  pub program : after.program ≡ before.program

-- first the caller's reply, if it does not wait, and then those of the callers that were served
abbrev pub RepliesFirst : Waiting → CallOutcome → List Answer → List Answer → Type 0
RepliesFirst call (Replies reply) served answers =
    answers ≡ record { task = call.task; number = call.number; reply = reply } ∷ served
RepliesFirst call Waits served answers = answers ≡ served

-- A call is a protected action of its object, which changes that object alone.
pub record IsCallOf (running : Running) (call : Waiting) (number : ℕ) (object : Protected)
    (request : Request)
    (answers : List Answer) (after : Running) : Type 0 where
  pub outcome : CallOutcome
  pub served : List Answer
  pub state : State
  pub action : Acts object.operations object.state request (Some outcome) served state
  pub replies : RepliesFirst call outcome served answers
  pub follows : ChangesObject number (record object { state = state }) running after
