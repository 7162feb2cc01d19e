-- What an action does to a program: calls, interrupts and ticks (Ada Reference Manual, sections
-- 9.5.1, 9.5.3, C.3, D.3, D.15).
use Rattle.std.specs.Prelude.{ℕ, ◌-◌, ℤ, pos, max, Bool, Option, Some, None, is_some}
use Rattle.std.specs.Prelude.{option_and_then, List, [], ◌∷◌, ◌++◌, slice_set, flat_map, map}
use Rattle.std.specs.Prelude.{if◌then◌else◌}
use Rattle.rp_base.specs.declared.action.Action.{Action}
use Rattle.rp_base.specs.declared.action.Action.TheVariants.{Noop, Call, Interrupt, Tick}
use Rattle.rp_base.specs.declared.action.Operation.{Operation}
use Rattle.rp_base.specs.declared.action.Operation.TheVariants.{Function, Procedure, Entry}
use Rattle.rp_base.specs.declared.action.Operation.TheVariants.{SetTimer, CancelTimer}
use Rattle.rp_base.specs.declared.reply.Reply.TheVariants.{Value, Truth, ProgramError}
use Rattle.rp_base.specs.declared.reply.Reply.TheVariants.{NoSuchOperation}
use Rattle.rp_base.specs.declared.reply.Answer.{Answer}
use Rattle.rp_entry.specs.declared.state.Waiting.{Waiting}
use Rattle.rp_entry.specs.declared.state.CallOutcome.{CallOutcome}
use Rattle.rp_entry.specs.declared.state.CallOutcome.TheVariants.{Reply, Waits}
use Rattle.rp_entry.specs.Operations.{of_index}
use Rattle.rp_entry.specs.Protected.{Protected}
use Rattle.rp_entry.specs.Queue.{all_calls}
use Rattle.rp_entry.specs.Actions.{Request, calls_function, calls_procedure, calls_entry, event}
use Rattle.rp_entry.specs.Results.{acted}
use Rattle.rp_machine.specs.Calls.{CallName}
use Rattle.rp_object.specs.declared.program.Handler.{Handler}
use Rattle.rp_object.specs.declared.program.Declarations.{Declarations}
use Rattle.rp_object.specs.Program.{is_declared, is_within_ceiling, interrupt_handler}
use Rattle.rp_object.specs.Program.{timer_handler}
use Rattle.rp_object.specs.State.{ProgramState, Running, call_name_of}
use Rattle.rp_object.specs.Timers.{due_events}

-- the result of something that happens: the outcome of the call that it is, if it is one, the
-- answers of the callers that were served, and the state after
pub record Result : Type 0 where
  pub caller : Option CallOutcome
  pub replied : List Answer
  pub after : ProgramState

-- nothing happens
abbrev pub nothing : ProgramState → Result
nothing before = record { caller = None; replied = []; after = before }

-- the call's outcome is this, nobody is served, and the state is this one
abbrev pub ends_with : CallOutcome → ProgramState → Result
ends_with outcome after = record { caller = Some outcome; replied = []; after = after }

-- the state with one object replaced, and with one timing event set or not set
abbrev pub with_object : ProgramState → ℕ → Protected → ProgramState
with_object state number object =
    record state { objects = slice_set state.objects (number - 1) object }

abbrev pub with_timer : ProgramState → ℕ → Option ℤ → ProgramState
with_timer state number time = record state { timers = slice_set state.timers (number - 1) time }

-- the protected action of one object, if it is there
abbrev pub object_acts : ProgramState → ℕ → Request → Option Protected → Result
object_acts before number request None = nothing before
object_acts before number request (Some object) =
    let did = acted object.operations object.state request in
    record {
      caller = did.caller;
      replied = did.replied;
      after =
          with_object before number (record object { state = did.after });
    }

-- the protected action of the object of this number (sections 9.5.1 and 9.5.3)
abbrev pub asks : ProgramState → ℕ → Request → Result
asks before number request = object_acts before number request (of_index before.objects number)

-- whether the timing event of this number is set (section D.15)
abbrev pub is_set : ProgramState → ℕ → Bool
is_set state number = is_some (option_and_then (λ time. time) (of_index state.timers number))

-- a call of an object is refused where the task's priority is above the ceiling (section D.3)
abbrev pub asks_within : Declarations → ProgramState → Waiting → ℕ → Request → Result
asks_within program before call object request =
    if is_within_ceiling program call.task object
    then asks before object request else ends_with (Reply ProgramError) before

-- a call of what is declared; setting replaces a setting, and cancelling returns whether there was
-- one (section D.15; that they are not checked against the ceiling is ours)
abbrev pub allowed : Declarations → ProgramState → Waiting → ℕ → Operation → Result
allowed program before call object (Function index) =
    asks_within program before call object (calls_function index call.arg)
allowed program before call object (Procedure index) =
    asks_within program before call object (calls_procedure index call.arg)
allowed program before call object (Entry index) =
    asks_within program before call object (calls_entry index call)
allowed program before call object (SetTimer index) =
    ends_with (Reply (Value (pos 0))) (with_timer before index (Some call.arg))
allowed program before call object (CancelTimer index) =
    ends_with (Reply (Truth (is_set before index))) (with_timer before index None)

-- a call: what is not declared is refused before anything else
abbrev pub called : Declarations → ProgramState → Waiting → ℕ → Operation → Result
called program before call object operation =
    if is_declared program call.task object operation
    then allowed program before call object operation else ends_with (Reply NoSuchOperation) before

-- a handler runs, if there is one (sections C.3 and D.15)
abbrev pub handled : ProgramState → Option Handler → Result
handled before None = nothing before
handled before (Some handler) = asks before handler.object (event handler.procedure)

-- the time of a timing event has come: first it is no longer set, and then its handler runs
-- (section D.15)
abbrev pub fires : Declarations → ProgramState → ℕ → Result
fires program before number = handled (with_timer before number None) (timer_handler program number)

-- timing events fire one after another
abbrev pub fire : Declarations → ProgramState → List ℕ → Result
fire program before [] = nothing before
fire program before (number ∷ rest) =
    let one = fires program before number in
    let others = fire program one.after rest in
    record { caller = None; replied = one.replied ++ others.replied; after = others.after }

-- a tick: the clock is raised if it is below, and then the events that are due fire in order
-- (section D.15; the clock is ours)
abbrev pub ticked : Declarations → ProgramState → ℕ → Result
ticked program before now =
    let clock = max before.clock now in
    fire program (record before { clock = clock }) (due_events clock before.timers)

-- the result of an action
abbrev pub program_step : Declarations → ProgramState → Action → Result
program_step program before Noop = nothing before
program_step program before (Call task number object operation arg) =
    called program before (record { task = task; number = number; arg = arg }) object operation
program_step program before (Interrupt source occurrence) =
    handled before (interrupt_handler program source)
program_step program before (Tick now) = ticked program before now

-- the answer to a call, if it does not wait
abbrev pub own_answer : CallName → Option CallOutcome → List Answer
own_answer call None = []
own_answer call (Some Waits) = []
own_answer call (Some (Reply reply)) =
    record { task = call.task; number = call.number; reply = reply } ∷ []

-- the caller's answer, and then those of the callers that were served
abbrev pub answers_of : Action → Result → List Answer
answers_of (Call task number object operation arg) result =
    own_answer (record { task = task; number = number }) result.caller ++ result.replied
answers_of Noop result = result.replied
answers_of (Interrupt source occurrence) result = result.replied
answers_of (Tick now) result = result.replied

-- the program after an action
abbrev pub objects_next : Running → Action → Running
objects_next running action =
    record running { state = (program_step running.program running.state action).after }

-- the answers to an action
abbrev pub objects_answers : Running → Action → List Answer
objects_answers running action =
    answers_of action (program_step running.program running.state action)

-- the calls that wait at one object, entry by entry
abbrev pub waiting_at : Protected → List CallName
waiting_at object = map call_name_of (all_calls object.state.queues)

-- the calls that wait, by the numbers of their objects
abbrev pub objects_waiting : Running → List CallName
objects_waiting running = flat_map waiting_at running.state.objects

-- their tasks
abbrev pub tasks_of : List CallName → List ℕ
tasks_of calls = map (λ (call : CallName). call.task) calls

abbrev pub tasks_waiting : Running → List ℕ
tasks_waiting running = tasks_of (objects_waiting running)
