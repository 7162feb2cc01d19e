-- Every action leads from a state of the program to one.
use Rattle.std.proofs.Common.{◌≡◌, ◌<◌, ◌-◌, ◌^◌, ℕ, zero, suc, ℤ, max, true, false, cond, List, []}
use Rattle.std.proofs.Common.{◌∷◌, length, set, map, Option, Some, None, All, IfSome, FitsSigned}
use Rattle.std.proofs.Common.{w64, refl, sym, ◌∙◌, ap, subst, arith}
use Rattle.std.specs.Prelude.{slice_get}
use Rattle.std.specs.List.{AllZip, AllByRecursion}
use Rattle.std.proofs.lemmas.List.{length-set}
use Rattle.std.proofs.lemmas.List.Elements.{All-set, recursion_from_All}
use Rattle.rp_base.specs.Action.{IsRight}
use Rattle.rp_base.specs.declared.action.Action.{Action}
use Rattle.rp_base.specs.declared.action.Action.TheVariants.{Noop, Call, Interrupt, Tick}
use Rattle.rp_base.specs.declared.action.Operation.{Operation}
use Rattle.rp_base.specs.declared.action.Operation.TheVariants.{Function, Procedure, Entry}
use Rattle.rp_base.specs.declared.action.Operation.TheVariants.{SetTimer, CancelTimer}
use Rattle.rp_base.specs.declared.reply.Reply.TheVariants.{ProgramError, NoSuchOperation}
use Rattle.rp_entry.specs.rp_body.specs.Store.{limits_of}
use Rattle.rp_entry.specs.rp_body.specs.Ranges.{HasBools}
use Rattle.rp_entry.specs.declared.operations.Operations.{Operations}
use Rattle.rp_entry.specs.declared.state.Waiting.{Waiting}
use Rattle.rp_entry.specs.declared.state.CallOutcome.TheVariants.{Reply}
use Rattle.rp_entry.specs.Operations.{of_index, OperationsFit}
use Rattle.rp_entry.specs.Queue.{IsServiced}
use Rattle.rp_entry.specs.Protected.{Protected, IsShort}
use Rattle.rp_entry.specs.Actions.{Request, calls_function, calls_procedure, calls_entry, event}
use Rattle.rp_entry.specs.Results.{acted}
use Rattle.rp_entry.proofs.Permuting.{mapped_permuted, set_permuted}
use Rattle.rp_entry.proofs.Queues.{as_many as queues_many}
use Rattle.rp_entry.proofs.Results.{is_acted}
use Rattle.rp_entry.proofs.Keeping.{acts_keep}
use Rattle.rp_entry.proofs.Naming.{acts_keep_booleans}
use Rattle.rp_machine.specs.Calls.{CallName, call_of, MayApply}
use Rattle.rp_object.specs.declared.program.Handler.{Handler}
use Rattle.rp_object.specs.declared.program.ObjectDeclaration.{ObjectDeclaration}
use Rattle.rp_object.specs.declared.program.Declarations.{Declarations}
use Rattle.rp_object.specs.Program.{operations_of, is_declared, is_within_ceiling}
use Rattle.rp_object.specs.Program.{interrupt_handler, timer_handler, DeclarationFits, IsProgram}
use Rattle.rp_object.specs.State.{ProgramState, Running}
use Rattle.rp_object.specs.Timers.{due_events}
use Rattle.rp_object.specs.Step.{object_acts, asks, ends_with, asks_within, allowed, called}
use Rattle.rp_object.specs.Step.{handled, fires, fire, with_timer, program_step, objects_next}
use Rattle.rp_object.specs.Step.{objects_answers, objects_waiting}
use Rattle.rp_object.specs.Reached.{IsCall, IsObjectOf, IsStateOf, HaveQueues}
use Rattle.rp_object.proofs.MachineLaws.Accounting.{step_leaves}
use Rattle.rp_object.proofs.MachineLaws.Distinct.{set_right, tasks_apart}
use Rattle.rp_object.proofs.MachineLaws.Queues.{IsRightRequest, acts_short, acts_calls}
use Rattle.rp_object.proofs.MachineLaws.Queues.{acts_serviced}

-- ---- one object

pub object_kept : (declared : ObjectDeclaration) (object : Protected) (request : Request)
    → DeclarationFits declared
    → IsRightRequest request → IsObjectOf declared object
    → IsObjectOf declared
    (record object { state = (acted object.operations object.state request).after })
object_kept declared object request fits right is =
    let acts = is_acted object.operations object.state request in
    let limits = limits_of declared.components in
    let operations : OperationsFit limits object.operations =
    subst (OperationsFit limits) (sym is.operations) fits.operations in
    let has : HasBools limits object.state.store =
    λ name below. is.bools name ∙ (fits.numbered.bools name).1 below in
    let after = (acted object.operations object.state request).after in
    let short : AllZip IsShort object.operations.entries.items object.state.queues =
    subst (λ (o : Operations). AllZip IsShort o.entries.items object.state.queues)
    (sym is.operations) is.queues in
    let before : IsServiced object.operations object.state =
    subst (λ (o : Operations). IsServiced o object.state) (sym is.operations) is.serviced in
    let serviced : IsServiced (operations_of declared) after =
    subst (λ (o : Operations). IsServiced o after) is.operations (acts_serviced acts before) in
    record {
      operations = is.operations;
      ranges = λ name. (acts_keep acts).ranges name ∙ is.ranges name;
      bools = λ name. acts_keep_booleans limits object.operations operations acts has name
          ∙ is.bools name;
      values = (acts_keep acts).values is.values;
      queues =
          subst (λ (o : Operations). AllZip IsShort o.entries.items after.queues) is.operations
          (acts_short acts short);
      calls = acts_calls (queues_many object.operations.entries.items object.state.queues short)
          acts right is.calls;
      serviced = serviced;
    }

-- ---- all objects

replaced : (declared : List ObjectDeclaration) (objects : List Protected) (place : ℕ)
    (object new : Protected)
    → AllByRecursion DeclarationFits declared → AllZip IsObjectOf declared objects
    → slice_get objects place ≡ Some object
    → ((one : ObjectDeclaration) → DeclarationFits one → IsObjectOf one object → IsObjectOf one new)
    → AllZip IsObjectOf declared (set objects place new)
replaced [] [] place object new fits each there stays = absurd (cc)
replaced [] (o ∷ objects) place object new fits each there stays = absurd each
replaced (d ∷ declared) [] place object new fits each there stays = absurd each
replaced (d ∷ declared) (o ∷ objects) zero object new fits each there stays =
    let is : o ≡ object = cc in
    (stays d fits.0 (subst (IsObjectOf d) is each.0), each.1)
replaced (d ∷ declared) (o ∷ objects) (suc place) object new fits each there stays =
    (each.0, replaced declared objects place object new fits.1 each.1 there stays)

-- what of a state a single action keeps
record Keeps (program : Declarations) (state : ProgramState) : Type 0 where
  objects : AllZip IsObjectOf program.objects.items state.objects
  all_timers : length state.timers ≡ length program.timers.items
  times : All (λ time. IfSome time (FitsSigned w64)) state.timers
  clock : state.clock < 2 ^ 32

module _ (program : Declarations) (right : IsProgram program) where
  asked : (before : ProgramState) (number : ℕ) (request : Request) (found : Option Protected)
      → of_index before.objects number ≡ found → IsRightRequest request → Keeps program before
      → Keeps program (object_acts before number request found).after
  asked before number request None none fits keeps = keeps
  asked before zero request (Some object) there fits keeps = absurd (cc)
  asked before (suc place) request (Some object) there fits keeps =
      let new : Protected =
      record object { state = (acted object.operations object.state request).after } in
      let where_is : suc place - 1 ≡ place = omega arith in
      let declared = recursion_from_All DeclarationFits program.objects.items right.objects in
      record {
        objects = subst (λ n. AllZip IsObjectOf program.objects.items (set before.objects n new))
            (sym where_is)
            (replaced program.objects.items before.objects place object new declared keeps.objects
            there
            (λ one all is. object_kept one object request all fits is));
        all_timers = keeps.all_timers;
        times = keeps.times;
        clock = keeps.clock;
      }

  asks_keep : (before : ProgramState) (number : ℕ) (request : Request) → IsRightRequest request
      → Keeps program before
      → Keeps program (asks before number request).after
  asks_keep before number request fits keeps =
      asked before number request (of_index before.objects number) refl fits keeps

  timer_keeps : (before : ProgramState) (number : ℕ) (time : Option ℤ)
      → IfSome time (FitsSigned w64)
      → Keeps program before → Keeps program (with_timer before number time)
  timer_keeps before number time fits keeps = record {
    objects = keeps.objects;
    all_timers = length-set before.timers (number - 1) time ∙ keeps.all_timers;
    times =
        All-set (λ t. IfSome t (FitsSigned w64)) before.timers (number - 1) time fits keeps.times;
    clock = keeps.clock;
  }

  handled_keeps : (before : ProgramState) (found : Option Handler) → Keeps program before
      → Keeps program (handled before found).after
  handled_keeps before None keeps = keeps
  handled_keeps before (Some handler) keeps =
      asks_keep before handler.object (event handler.procedure) tt keeps

  fire_keeps : (before : ProgramState) (numbers : List ℕ) → Keeps program before
      → Keeps program (fire program before numbers).after
  fire_keeps before [] keeps = keeps
  fire_keeps before (number ∷ rest) keeps =
      fire_keeps (fires program before number).after rest
      (handled_keeps (with_timer before number None) (timer_handler program number)
      (timer_keeps before number None tt keeps))

  -- ---- calls

  module _ (before : ProgramState) (call : Waiting) (object : ℕ) (fits : IsCall call)
      (keeps : Keeps program before) where
    within_keeps : (request : Request) → IsRightRequest request
        → Keeps program (asks_within program before call object request).after
    within_keeps request asked_right =
        elim (is_within_ceiling program call.task object) as
        (λ b. Keeps program
        (cond b (asks before object request) (ends_with (Reply ProgramError) before)).after)
        [ true ↦ asks_keep before object request asked_right keeps | false ↦ keeps ]

    allowed_keeps : (operation : Operation)
        → Keeps program (allowed program before call object operation).after
    allowed_keeps (Function index) = within_keeps (calls_function index call.arg) tt
    allowed_keeps (Procedure index) = within_keeps (calls_procedure index call.arg) tt
    allowed_keeps (Entry index) = within_keeps (calls_entry index call) fits
    allowed_keeps (SetTimer index) = timer_keeps before index (Some call.arg) fits.arg keeps
    allowed_keeps (CancelTimer index) = timer_keeps before index None tt keeps

    called_keeps : (operation : Operation)
        → Keeps program (called program before call object operation).after
    called_keeps operation =
        elim (is_declared program call.task object operation) as
        (λ b. Keeps program (cond b (allowed program before call object operation)
        (ends_with (Reply NoSuchOperation) before)).after)
        [ true ↦ allowed_keeps operation | false ↦ keeps ]

  step_keeps : (before : ProgramState) (action : Action) → IsRight action → Keeps program before
      → Keeps program (program_step program before action).after
  step_keeps before Noop fits keeps = keeps
  step_keeps before (Call task number object operation arg) fits keeps =
      called_keeps before (record { task = task; number = number; arg = arg }) object
      (record { task = fits.0; number = fits.1; arg = fits.4 }) keeps operation
  step_keeps before (Interrupt source occurrence) fits keeps =
      handled_keeps before (interrupt_handler program source) keeps
  step_keeps before (Tick now) fits keeps =
      let clock = max before.clock now in
      fire_keeps (record before { clock = clock }) (due_events clock before.timers)
      (record {
        objects = keeps.objects;
        all_timers = keeps.all_timers;
        times = keeps.times;
        clock =
            omega (arith, keeps.clock, fits);
      })

-- each declared object is there
pub as_many : (declared : List ObjectDeclaration) (objects : List Protected)
    → AllZip IsObjectOf declared objects
    → length declared ≡ length objects
as_many [] [] each = refl
as_many [] (o ∷ objects) each = absurd each
as_many (d ∷ declared) [] each = absurd each
as_many (d ∷ declared) (o ∷ objects) each = ap suc (as_many declared objects each.1)

-- and has its queues
pub have_queues : (declared : List ObjectDeclaration) (objects : List Protected)
    → AllZip IsObjectOf declared objects
    → HaveQueues objects
have_queues [] [] each = tt
have_queues [] (o ∷ objects) each = absurd each
have_queues (d ∷ declared) [] each = absurd each
have_queues (d ∷ declared) (o ∷ objects) each =
    let many = queues_many (operations_of d).entries.items o.state.queues each.0.queues in (
      many ∙ ap (λ (p : Operations). length p.entries.items)
          (sym each.0.operations),
      have_queues declared objects each.1,
    )

-- an action keeps a state one of the program's
pub next_is_state : (program : Declarations) (running : Running) (action : Action)
    → IsProgram program
    → IsStateOf program running → IsRight action → MayApply (objects_waiting running) action
    → IsStateOf program (objects_next running action)
next_is_state program running action right is fits may =
    let before = running.state in
    let own = running.program in
    let right_own : IsProgram own = subst IsProgram (sym is.declared) right in
    let start : Keeps own before =
    subst (λ (p : Declarations). Keeps p before) (sym is.declared)
    (record {
      objects = is.objects;
      all_timers = is.all_timers;
      times = is.times;
      clock = is.clock;
    }) in
    let kept : Keeps program (program_step own before action).after =
    subst (λ (p : Declarations). Keeps p (program_step own before action).after) is.declared
    (step_keeps own right_own before action fits start) in
    let leaves =
    step_leaves own before action (as_many own.objects.items before.objects start.objects)
    (have_queues own.objects.items before.objects start.objects) in
    let task_of : CallName → ℕ = λ call. call.task in
    record {
      declared = is.declared;
      objects = kept.objects;
      all_timers = kept.all_timers;
      times = kept.times;
      clock = kept.clock;
      tasks =
          set_right task_of (map call_of (objects_answers running action))
          (objects_waiting (objects_next running action))
          (set_permuted (mapped_permuted task_of leaves)
          (tasks_apart (objects_waiting running) action may is.tasks));
    }
