-- The clock is the greatest of the ticks.
use Rattle.std.proofs.Common.{◌≡◌, ℕ, max, true, false, cond, List, [], ◌∷◌, ◌++◌, Option, Some}
use Rattle.std.proofs.Common.{None}
use Rattle.std.proofs.Common.{refl, ◌∙◌, ap, arith}
use Rattle.std.specs.Prelude.{filter_map}
use Rattle.rp_base.specs.declared.action.Action.{Action}
use Rattle.rp_base.specs.declared.action.Action.TheVariants.{Noop, Call, Interrupt, Tick}
use Rattle.rp_base.specs.declared.action.Operation.{Operation}
use Rattle.rp_base.specs.declared.action.Operation.TheVariants.{Function, Procedure, Entry}
use Rattle.rp_base.specs.declared.action.Operation.TheVariants.{SetTimer, CancelTimer}
use Rattle.rp_base.specs.declared.reply.Reply.TheVariants.{ProgramError, NoSuchOperation}
use Rattle.rp_entry.specs.declared.state.Waiting.{Waiting}
use Rattle.rp_entry.specs.declared.state.CallOutcome.TheVariants.{Reply}
use Rattle.rp_entry.specs.Operations.{of_index}
use Rattle.rp_entry.specs.Protected.{Protected}
use Rattle.rp_entry.specs.Actions.{Request, calls_function, calls_procedure, calls_entry, event}
use Rattle.rp_base.specs.Number.{greatest}
use Rattle.rp_machine.specs.Replay.{counts, Replayed, replay_step, replay_from}
use Rattle.rp_object.specs.declared.program.Handler.{Handler}
use Rattle.rp_object.specs.declared.program.Declarations.{Declarations}
use Rattle.rp_object.specs.Program.{is_declared, is_within_ceiling, interrupt_handler}
use Rattle.rp_object.specs.Program.{timer_handler}
use Rattle.rp_object.specs.State.{ProgramState, Running}
use Rattle.rp_object.specs.Timers.{due_events}
use Rattle.rp_object.specs.Step.{object_acts, asks, ends_with, asks_within, allowed, called}
use Rattle.rp_object.specs.Step.{handled, fires, fire, with_timer, objects_next, objects_answers}
use Rattle.rp_object.specs.Ticks.{tick_of}

-- ---- what an object does changes neither the clock nor the timing events

object_alone : (before : ProgramState) (number : ℕ) (request : Request) (found : Option Protected)
    → (object_acts before number request found).after
    ≡ record before { objects = (object_acts before number request found).after.objects }
object_alone before number request None = refl
object_alone before number request (Some object) = refl

asks_alone : (before : ProgramState) (number : ℕ) (request : Request)
    → (asks before number request).after
    ≡ record before { objects = (asks before number request).after.objects }
asks_alone before number request =
    object_alone before number request (of_index before.objects number)

pub handled_alone : (before : ProgramState) (found : Option Handler)
    → (handled before found).after
    ≡ record before { objects = (handled before found).after.objects }
handled_alone before None = refl
handled_alone before (Some handler) = asks_alone before handler.object (event handler.procedure)

-- nor does what fires change the clock
fire_clock : (program : Declarations) (before : ProgramState) (numbers : List ℕ)
    → (fire program before numbers).after.clock ≡ before.clock
fire_clock program before [] = refl
fire_clock program before (number ∷ rest) =
    fire_clock program (fires program before number).after rest
    ∙ ap (λ (s : ProgramState). s.clock)
    (handled_alone (with_timer before number None) (timer_handler program number))

module _ (program : Declarations) (before : ProgramState) (call : Waiting) (object : ℕ) where
  within_clock : (request : Request)
      → (asks_within program before call object request).after.clock ≡ before.clock
  within_clock request =
      elim (is_within_ceiling program call.task object) as
      (λ b. (cond b (asks before object request)
      (ends_with (Reply ProgramError) before)).after.clock
      ≡ before.clock) [
        | true ↦ ap (λ (s : ProgramState). s.clock) (asks_alone before object request)
        | false ↦ refl
      ]

  allowed_clock : (operation : Operation)
      → (allowed program before call object operation).after.clock ≡ before.clock
  allowed_clock (Function index) = within_clock (calls_function index call.arg)
  allowed_clock (Procedure index) = within_clock (calls_procedure index call.arg)
  allowed_clock (Entry index) = within_clock (calls_entry index call)
  allowed_clock (SetTimer index) = refl
  allowed_clock (CancelTimer index) = refl

  called_clock : (operation : Operation)
      → (called program before call object operation).after.clock ≡ before.clock
  called_clock operation =
      elim (is_declared program call.task object operation) as
      (λ b. (cond b (allowed program before call object operation)
      (ends_with (Reply NoSuchOperation) before)).after.clock ≡ before.clock)
      [ true ↦ allowed_clock operation | false ↦ refl ]

-- ---- one action after another

-- whether or not an action counts, the clock stays where the action leaves it
still : (r : Replayed Running) (action : Action)
    → (objects_next r.state action).state.clock ≡ r.state.state.clock
    → (replay_step objects_next objects_answers r action).state.state.clock
    ≡ r.state.state.clock
still r action same =
    elim (counts r.kept r.given action) as
    (λ b. (cond b
    (record {
      state = objects_next r.state action;
      kept = r.kept ++ action ∷ [];
      given = r.given ++ objects_answers r.state action;
    }) r).state.state.clock ≡ r.state.state.clock)
    [ true ↦ same | false ↦ refl ]

-- the clock is the greatest of what it was and the ticks
pub clock_greatest : (r : Replayed Running) (actions : List Action)
    → (replay_from objects_next objects_answers r actions).state.state.clock
    ≡ max r.state.state.clock (greatest (filter_map tick_of actions))
clock_greatest r [] = omega arith
clock_greatest r (Noop ∷ rest) = clock_greatest r rest
clock_greatest r (Call task number object operation arg ∷ rest) =
    let action : Action = Call task number object operation arg in
    clock_greatest (replay_step objects_next objects_answers r action) rest
    ∙ ap (λ n. max n (greatest (filter_map tick_of rest)))
    (still r action
    (called_clock r.state.program r.state.state
    (record { task = task; number = number; arg = arg }) object operation))
clock_greatest r (Interrupt source occurrence ∷ rest) =
    let action : Action = Interrupt source occurrence in
    clock_greatest (replay_step objects_next objects_answers r action) rest
    ∙ ap (λ n. max n (greatest (filter_map tick_of rest)))
    (still r action
    (ap (λ (s : ProgramState). s.clock)
    (handled_alone r.state.state (interrupt_handler r.state.program source))))
clock_greatest r (Tick now ∷ rest) =
    let before = r.state.state in
    let clock = max before.clock now in
    let others = greatest (filter_map tick_of rest) in
    let raised = fire_clock r.state.program (record before { clock = clock })
    (due_events clock before.timers) in
    clock_greatest (replay_step objects_next objects_answers r (Tick now)) rest
    ∙ ap (λ n. max n others) raised
    ∙ max_grouped before.clock now others where
      max_grouped : (a b c : ℕ) → max (max a b) c ≡ max a (max b c)
      max_grouped a b c = omega arith
