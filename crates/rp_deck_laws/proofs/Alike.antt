-- Programs that mean the same take alike steps from alike states.
use Rattle.std.proofs.Common.{◌≡◌, ℕ, ◌-◌, ℤ, pos, max, Bool, true, false, cond, Option, Some, None, List, [], ◌∷◌, ◌++◌, map, set, refl, sym, ap, subst, ◌∙◌}
use Rattle.std.specs.Prelude.{option_map, is_some, slice_set, nat_le, nat_eq, ◌&&◌, unwrap_or, string_bytes}
use Rattle.std.proofs.lemmas.List.{map-set}
use Rattle.rp_deck.specs.rp_base.specs.declared.action.Action.{Action}
use Rattle.rp_deck.specs.rp_base.specs.declared.action.Action.TheVariants.{Noop, Call, Interrupt, Tick}
use Rattle.rp_deck.specs.rp_base.specs.declared.action.Operation.{Operation}
use Rattle.rp_deck.specs.rp_base.specs.declared.action.Operation.TheVariants.{Function, Procedure, Entry, SetTimer, CancelTimer}
use Rattle.rp_deck.specs.rp_base.specs.declared.reply.Reply.TheVariants.{Value, Truth, ProgramError, NoSuchOperation}
use Rattle.rp_object.specs.rp_entry.specs.declared.state.Waiting.{Waiting}
use Rattle.rp_object.specs.rp_entry.specs.declared.state.CallOutcome.{CallOutcome}
use Rattle.rp_object.specs.rp_entry.specs.declared.state.CallOutcome.TheVariants.{Reply}
use Rattle.rp_object.specs.rp_entry.specs.Operations.{of_index}
use Rattle.rp_object.specs.rp_entry.specs.Protected.{Protected}
use Rattle.rp_object.specs.rp_entry.specs.Queue.{State}
use Rattle.rp_object.specs.rp_entry.specs.Actions.{Request, calls_function, calls_procedure, calls_entry, event}
use Rattle.rp_object.specs.rp_entry.specs.Results.{Acted, acted}
use Rattle.rp_object.specs.declared.program.Declarations.{Declarations}
use Rattle.rp_object.specs.declared.program.Handler.{Handler}
use Rattle.rp_object.specs.declared.program.ObjectDeclaration.{ObjectDeclaration}
use Rattle.rp_object.specs.declared.program.TimingEvent.{TimingEvent}
use Rattle.rp_object.specs.Program.{operations_of, has_operation, is_some_and, object_has, timer_is_of, is_offered, is_declared, is_within_ceiling, interrupt_handler, timer_handler}
use Rattle.rp_object.specs.State.{ProgramState, Running}
use Rattle.rp_object.specs.Step.{Result, nothing, ends_with, with_timer, object_acts, asks, is_set, asks_within, allowed, called, handled, fires, fire, ticked, program_step, own_answer, answers_of, objects_next, objects_answers}
use Rattle.rp_object.specs.Timers.{due_events}
use Rattle.rp_deck.specs.rp_deck_objects.specs.ObjectViews.{ProtectedText, protected_text, function_text, entry_text}
use Rattle.rp_deck_laws.proofs.Acting.{Meant, meant, procedure_text, of_map, acts_alike}

abbrev pub handler_of : TimingEvent → Handler
handler_of timer = timer.handler

abbrev pub timer_name : TimingEvent → List ℕ
timer_name timer = string_bytes timer.name

-- declarations that mean the same
pub record AreAlike (one other : Declarations) : Type 0 where
  pub profile : one.profile ≡ other.profile
  pub priorities : one.priorities.items ≡ other.priorities.items
  pub objects : map protected_text one.objects.items ≡ map protected_text other.objects.items
  pub interrupts : one.interrupts.items ≡ other.interrupts.items
  pub handlers : map handler_of one.timers.items ≡ map handler_of other.timers.items
  pub names : map timer_name one.timers.items ≡ map timer_name other.timers.items

-- an object: what its operations mean, and its state
pub record Seen : Type 0 where
  pub operations : Meant
  pub state : State

abbrev pub seen : Protected → Seen
seen object = record { operations = meant object.operations; state = object.state }

-- states that are the same but for how operations lie in memory
pub record AlikeStates (one other : ProgramState) : Type 0 where
  pub objects : map seen one.objects ≡ map seen other.objects
  pub timers : one.timers ≡ other.timers
  pub clock : one.clock ≡ other.clock

record AlikeResults (one other : Result) : Type 0 where
  pub caller : one.caller ≡ other.caller
  pub replied : one.replied ≡ other.replied
  pub after : AlikeStates one.after other.after

-- ---- tests of what is declared

some_and_is : {X Y : Type 0} (test : X → Bool) (other : Y → Bool) (f : X → Y) → ((x : X) → test x ≡ other (f x)) → (o : Option X) → is_some_and test o ≡ is_some_and other (option_map f o)
some_and_is test other f same None = refl
some_and_is test other f same (Some x) = same x

is_some_map : {X Y : Type 0} (f : X → Y) (o : Option X) → is_some o ≡ is_some (option_map f o)
is_some_map f None = refl
is_some_map f (Some x) = refl

has_as : Operation → ProtectedText → Bool
has_as (Function index) object = is_some (of_index object.functions index)
has_as (Procedure index) object = is_some (of_index object.procedures index)
has_as (Entry index) object = is_some (of_index object.entries index)
has_as (SetTimer index) object = false
has_as (CancelTimer index) object = false

some_mapped : {X Y : Type 0} (f : X → Y) (xs : List X) (n : ℕ) → is_some (of_index xs n) ≡ is_some (of_index (map f xs) n)
some_mapped f xs n = is_some_map f (of_index xs n) ∙ ap (λ (o : Option _). is_some o) (sym (of_map f xs n))

has_is : (operation : Operation) (declared : ObjectDeclaration) → has_operation operation (operations_of declared) ≡ has_as operation (protected_text declared)
unfolding has_as
has_is (Function index) declared = some_mapped function_text (operations_of declared).functions.items index
has_is (Procedure index) declared = some_mapped procedure_text (operations_of declared).procedures.items index
has_is (Entry index) declared = some_mapped entry_text (operations_of declared).entries.items index
has_is (SetTimer index) declared = refl
has_is (CancelTimer index) declared = refl

module _ (p q : Declarations) (same : AreAlike p q) where
  -- a test of an object or of a timing event is the same in both
  of_object : (test : ObjectDeclaration → Bool) (other : ProtectedText → Bool) → ((d : ObjectDeclaration) → test d ≡ other (protected_text d)) → (n : ℕ) → is_some_and test (of_index p.objects.items n) ≡ is_some_and test (of_index q.objects.items n)
  of_object test other is n =
      let by = λ (l : List ObjectDeclaration). some_and_is test other protected_text is (of_index l n) ∙ ap (λ (o : Option ProtectedText). is_some_and other o) (sym (of_map protected_text l n)) in
      by p.objects.items ∙ ap (λ (l : List ProtectedText). is_some_and other (of_index l n)) same.objects ∙ sym (by q.objects.items)

  has_alike : (object : ℕ) (operation : Operation) → object_has p object operation ≡ object_has q object operation
  has_alike object operation = of_object (λ declared. has_operation operation (operations_of declared)) (has_as operation) (has_is operation) object

  timer_alike : (object number : ℕ) → timer_is_of p object number ≡ timer_is_of q object number
  timer_alike object number =
      let test : Handler → Bool = λ h. nat_eq h.object object in
      let by = λ (l : List TimingEvent). some_and_is (λ (t : TimingEvent). nat_eq t.handler.object object) test handler_of (λ t. refl) (of_index l number) ∙ ap (λ (o : Option Handler). is_some_and test o) (sym (of_map handler_of l number)) in
      by p.timers.items ∙ ap (λ (l : List Handler). is_some_and test (of_index l number)) same.handlers ∙ sym (by q.timers.items)

  offered_alike : (object : ℕ) (operation : Operation) → is_offered p object operation ≡ is_offered q object operation
  offered_alike object (Function index) = has_alike object (Function index)
  offered_alike object (Procedure index) = has_alike object (Procedure index)
  offered_alike object (Entry index) = has_alike object (Entry index)
  offered_alike object (SetTimer index) = timer_alike object index
  offered_alike object (CancelTimer index) = timer_alike object index

  declared_alike : (task object : ℕ) (operation : Operation) → is_declared p task object operation ≡ is_declared q task object operation
  declared_alike task object operation = λ i. is_some (of_index (same.priorities i) task) && offered_alike object operation i

  ceiling_at : (object : ℕ) (o : Option ℕ) → is_some_and (λ priority. is_some_and (λ (d : ObjectDeclaration). nat_le priority d.ceiling) (of_index p.objects.items object)) o
      ≡ is_some_and (λ priority. is_some_and (λ (d : ObjectDeclaration). nat_le priority d.ceiling) (of_index q.objects.items object)) o
  ceiling_at object None = refl
  ceiling_at object (Some priority) = of_object (λ d. nat_le priority d.ceiling) (λ d. nat_le priority d.ceiling) (λ d. refl) object

  ceiling_alike : (task object : ℕ) → is_within_ceiling p task object ≡ is_within_ceiling q task object
  ceiling_alike task object =
      ceiling_at object (of_index p.priorities.items task)
      ∙ ap (λ (l : List ℕ). is_some_and (λ priority. is_some_and (λ (d : ObjectDeclaration). nat_le priority d.ceiling) (of_index q.objects.items object)) (of_index l task)) same.priorities

  timer_handlers : (number : ℕ) → timer_handler p number ≡ timer_handler q number
  timer_handlers number = sym (of_map handler_of p.timers.items number) ∙ ap (λ (l : List Handler). of_index l number) same.handlers ∙ of_map handler_of q.timers.items number

-- ---- results

nothing_alike : (s t : ProgramState) → AlikeStates s t → AlikeResults (nothing s) (nothing t)
nothing_alike s t same = record { caller = refl; replied = refl; after = same }

ends_alike : (outcome : CallOutcome) (s t : ProgramState) → AlikeStates s t → AlikeResults (ends_with outcome s) (ends_with outcome t)
ends_alike outcome s t same = record { caller = refl; replied = refl; after = same }

if_alike : (b c : Bool) → b ≡ c → (x y z w : Result) → AlikeResults x z → AlikeResults y w → AlikeResults (cond {A = Result} b x y) (cond {A = Result} c z w)
if_alike b c is x y z w first second = subst (λ (c : Bool). AlikeResults (cond {A = Result} b x y) (cond {A = Result} c z w)) is (case b)
  where
    case : (b : Bool) → AlikeResults (cond {A = Result} b x y) (cond {A = Result} b z w)
    case true = first
    case false = second

object_alike : (s t : ProgramState) → AlikeStates s t → (number : ℕ) (request : Request) (x y : Option Protected) → option_map seen x ≡ option_map seen y → AlikeResults (object_acts s number request x) (object_acts t number request y)
object_alike s t same number request None None is = nothing_alike s t same
object_alike s t same number request None (Some y) is = absurd (cc)
object_alike s t same number request (Some x) None is = absurd (cc)
object_alike s t same number request (Some x) (Some y) is =
    let one : seen x ≡ seen y = ap (λ (o : Option Seen). unwrap_or o (seen x)) is in
    let did : acted x.operations x.state request ≡ acted y.operations y.state request =
    acts_alike x.operations y.operations x.state request (ap (λ (e : Seen). e.operations) one) ∙ ap (λ (st : State). acted y.operations st request) (ap (λ (e : Seen). e.state) one) in
    let a = acted x.operations x.state request in
    let b = acted y.operations y.state request in
    record {
      caller = ap (λ (r : Acted). r.caller) did;
      replied = ap (λ (r : Acted). r.replied) did;
      after = record {
        objects =
            map-set seen s.objects (number - 1) (record x { state = a.after })
            ∙ (λ i. set (same.objects i) (number - 1) (record { operations = (one i).operations; state = (did i).after }))
            ∙ sym (map-set seen t.objects (number - 1) (record y { state = b.after }));
        timers = same.timers;
        clock = same.clock;
      };
    }

asks_alike : (s t : ProgramState) → AlikeStates s t → (number : ℕ) (request : Request) → AlikeResults (asks s number request) (asks t number request)
asks_alike s t same number request =
    object_alike s t same number request (of_index s.objects number) (of_index t.objects number)
    (sym (of_map seen s.objects number) ∙ ap (λ (l : List Seen). of_index l number) same.objects ∙ of_map seen t.objects number)

with_timer_alike : (s t : ProgramState) → AlikeStates s t → (number : ℕ) (time : Option ℤ) → AlikeStates (with_timer s number time) (with_timer t number time)
with_timer_alike s t same number time = record {
  objects = same.objects;
  timers = ap (λ (l : List (Option ℤ)). slice_set l (number - 1) time) same.timers;
  clock = same.clock;
}

module _ (p q : Declarations) (same : AreAlike p q) where
  within_alike : (s t : ProgramState) → AlikeStates s t → (call : Waiting) (object : ℕ) (request : Request) → AlikeResults (asks_within p s call object request) (asks_within q t call object request)
  within_alike s t alike call object request =
      if_alike (is_within_ceiling p call.task object) (is_within_ceiling q call.task object) (ceiling_alike p q same call.task object) (asks s object request) (ends_with (Reply ProgramError) s) (asks t object request) (ends_with (Reply ProgramError) t)
      (asks_alike s t alike object request) (ends_alike (Reply ProgramError) s t alike)

  allowed_alike : (s t : ProgramState) → AlikeStates s t → (call : Waiting) (object : ℕ) (operation : Operation) → AlikeResults (allowed p s call object operation) (allowed q t call object operation)
  allowed_alike s t alike call object (Function index) = within_alike s t alike call object (calls_function index call.arg)
  allowed_alike s t alike call object (Procedure index) = within_alike s t alike call object (calls_procedure index call.arg)
  allowed_alike s t alike call object (Entry index) = within_alike s t alike call object (calls_entry index call)
  allowed_alike s t alike call object (SetTimer index) =
      ends_alike (Reply (Value (pos 0))) (with_timer s index (Some call.arg)) (with_timer t index (Some call.arg)) (with_timer_alike s t alike index (Some call.arg))
  allowed_alike s t alike call object (CancelTimer index) =
      record {
        caller = ap (λ (l : List (Option ℤ)). Some (Reply (Truth (is_set (record t { timers = l }) index)))) alike.timers;
        replied = refl;
        after = with_timer_alike s t alike index None;
      }

  called_alike : (s t : ProgramState) → AlikeStates s t → (call : Waiting) (object : ℕ) (operation : Operation) → AlikeResults (called p s call object operation) (called q t call object operation)
  called_alike s t alike call object operation =
      if_alike (is_declared p call.task object operation) (is_declared q call.task object operation) (declared_alike p q same call.task object operation) (allowed p s call object operation) (ends_with (Reply NoSuchOperation) s)
      (allowed q t call object operation) (ends_with (Reply NoSuchOperation) t)
      (allowed_alike s t alike call object operation) (ends_alike (Reply NoSuchOperation) s t alike)

  handled_alike : (s t : ProgramState) → AlikeStates s t → (handler : Option Handler) → AlikeResults (handled s handler) (handled t handler)
  handled_alike s t alike None = nothing_alike s t alike
  handled_alike s t alike (Some handler) = asks_alike s t alike handler.object (event handler.procedure)

  fires_alike : (s t : ProgramState) → AlikeStates s t → (number : ℕ) → AlikeResults (fires p s number) (fires q t number)
  fires_alike s t alike number =
      subst (λ (h : Option Handler). AlikeResults (fires p s number) (handled (with_timer t number None) h)) (timer_handlers p q same number)
      (handled_alike (with_timer s number None) (with_timer t number None) (with_timer_alike s t alike number None) (timer_handler p number))

  fire_alike : (s t : ProgramState) → AlikeStates s t → (numbers : List ℕ) → AlikeResults (fire p s numbers) (fire q t numbers)
  fire_alike s t alike [] = nothing_alike s t alike
  fire_alike s t alike (number ∷ rest) =
      let one = fires_alike s t alike number in
      let others = fire_alike (fires p s number).after (fires q t number).after one.after rest in
      record { caller = refl; replied = λ i. one.replied i ++ others.replied i; after = others.after }

  ticked_alike : (s t : ProgramState) → AlikeStates s t → (now : ℕ) → AlikeResults (ticked p s now) (ticked q t now)
  ticked_alike s t alike now =
      let clock : max s.clock now ≡ max t.clock now = ap (λ (c : ℕ). max c now) alike.clock in
      let due : due_events (max s.clock now) s.timers ≡ due_events (max t.clock now) t.timers = λ i. due_events (clock i) (alike.timers i) in
      let set : AlikeStates (record s { clock = max s.clock now }) (record t { clock = max t.clock now }) = record { objects = alike.objects; timers = alike.timers; clock = clock } in
      subst (λ (l : List ℕ). AlikeResults (ticked p s now) (fire q (record t { clock = max t.clock now }) l)) due
      (fire_alike (record s { clock = max s.clock now }) (record t { clock = max t.clock now }) set (due_events (max s.clock now) s.timers))

  step_alike : (s t : ProgramState) → AlikeStates s t → (action : Action) → AlikeResults (program_step p s action) (program_step q t action)
  step_alike s t alike Noop = nothing_alike s t alike
  step_alike s t alike (Call task number object operation arg) = called_alike s t alike (record { task = task; number = number; arg = arg }) object operation
  step_alike s t alike (Interrupt source occurrence) =
      subst (λ (h : Option Handler). AlikeResults (program_step p s (Interrupt source occurrence)) (handled t h)) (ap (λ (l : List Handler). of_index l source) same.interrupts) (handled_alike s t alike (interrupt_handler p source))
  step_alike s t alike (Tick now) = ticked_alike s t alike now

-- ---- programs that run

pub record AlikeRunning (one other : Running) : Type 0 where
  pub program : AreAlike one.program other.program
  pub state : AlikeStates one.state other.state

pub next_alike : (r q : Running) → AlikeRunning r q → (action : Action) → AlikeRunning (objects_next r action) (objects_next q action)
next_alike r q alike action = record { program = alike.program; state = (step_alike r.program q.program alike.program r.state q.state alike.state action).after }

answers_at : (action : Action) (one other : Result) → AlikeResults one other → answers_of action one ≡ answers_of action other
answers_at (Call task number object operation arg) one other alike = λ i. own_answer (record { task = task; number = number }) (alike.caller i) ++ alike.replied i
answers_at Noop one other alike = alike.replied
answers_at (Interrupt source occurrence) one other alike = alike.replied
answers_at (Tick now) one other alike = alike.replied

pub answers_alike : (r q : Running) → AlikeRunning r q → (action : Action) → objects_answers r action ≡ objects_answers q action
answers_alike r q alike action = answers_at action (program_step r.program r.state action) (program_step q.program q.state action) (step_alike r.program q.program alike.program r.state q.state alike.state action)
