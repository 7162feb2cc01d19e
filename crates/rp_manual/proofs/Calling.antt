-- What a program does with a call, a timing event and an interrupt.
use Rattle.std.proofs.Common.{◌≡◌, ◌≢◌, ◌<◌, ◌≤◌, ◌-◌, ℕ, zero, suc, ℤ, pos, Bool, true, false, cond, ◌&&◌, List, [], ◌∷◌, ◌++◌, set, Option, Some, None, refl, sym, ◌∙◌, ap, subst, arith}
use Rattle.std.specs.Prelude.{slice_get, nat_le, nat_eq, is_some, option_and_then}
use Rattle.std.proofs.lemmas.Bool.Decides.{nat_tests}
use Rattle.rp_object.specs.rp_base.specs.declared.action.Operation.{Operation}
use Rattle.rp_object.specs.rp_base.specs.declared.action.Operation.TheVariants.{Function, Procedure, Entry, SetTimer, CancelTimer}
use Rattle.rp_object.specs.rp_base.specs.declared.reply.Reply.{Reply as Replies}
use Rattle.rp_object.specs.rp_base.specs.declared.reply.Reply.TheVariants.{Value, Truth, ProgramError, NoSuchOperation}
use Rattle.rp_object.specs.rp_base.specs.declared.reply.Answer.{Answer}
use Rattle.rp_object.specs.rp_entry.specs.declared.operations.Operations.{Operations}
use Rattle.rp_object.specs.rp_entry.specs.declared.state.Waiting.{Waiting}
use Rattle.rp_object.specs.rp_entry.specs.declared.state.CallOutcome.{CallOutcome}
use Rattle.rp_object.specs.rp_entry.specs.declared.state.CallOutcome.TheVariants.{Reply, Waits}
use Rattle.rp_object.specs.rp_entry.specs.Operations.{of_index}
use Rattle.rp_object.specs.rp_entry.specs.Queue.{State}
use Rattle.rp_object.specs.rp_entry.specs.Protected.{Protected}
use Rattle.rp_object.specs.rp_entry.specs.Actions.{Request, Acts, calls_function, calls_procedure, calls_entry, event, function, procedure, open_entry, closed_entry, full_queue, handler, no_function, no_procedure, no_entry, no_handler}
use Rattle.rp_object.specs.rp_entry.specs.Results.{acted}
use Rattle.rp_object.specs.rp_entry.proofs.Results.{is_acted}
use Rattle.rp_object.specs.declared.program.Handler.{Handler}
use Rattle.rp_object.specs.declared.program.TimingEvent.{TimingEvent}
use Rattle.rp_object.specs.declared.program.ObjectDeclaration.{ObjectDeclaration}
use Rattle.rp_object.specs.declared.program.Declarations.{Declarations}
use Rattle.rp_object.specs.Program.{operations_of, has_operation, is_some_and, is_offered, is_declared, is_within_ceiling}
use Rattle.rp_object.specs.State.{ProgramState, Running, call_name_of}
use Rattle.rp_object.specs.Step.{Result, ends_with, with_object, with_timer, object_acts, asks, allowed, called, handled, own_answer}
use Rattle.rp_manual.specs.ProgramRules as rules
use Rattle.rp_manual.specs.ProgramRules.{Offers, IsRequestOf, IsDeclaredCall, IsUndeclared, IsRefusedWith, ChangesObject, ChangesTimer, RepliesFirst, IsCallOf}

-- ---- one of a list is replaced

slice_set_there : {X : Type 0} (xs : List X) (k : ℕ) (x y : X) → slice_get xs k ≡ Some x → slice_get (set xs k y) k ≡ Some y
slice_set_there [] k x y there = absurd (cc)
slice_set_there (z ∷ zs) zero x y there = refl
slice_set_there (z ∷ zs) (suc k) x y there = slice_set_there zs k x y there

slice_set_other : {X : Type 0} (xs : List X) (k : ℕ) (y : X) (q : ℕ) → q ≢ k → slice_get (set xs k y) q ≡ slice_get xs q
slice_set_other [] k y q apart = refl
slice_set_other (z ∷ zs) zero y zero apart = absurd (apart refl)
slice_set_other (z ∷ zs) zero y (suc q) apart = refl
slice_set_other (z ∷ zs) (suc k) y zero apart = refl
slice_set_other (z ∷ zs) (suc k) y (suc q) apart = slice_set_other zs k y q (λ e. apart (ap suc e))

pub set_there : {X : Type 0} (xs : List X) (n : ℕ) (x y : X) → of_index xs n ≡ Some x → of_index (set xs (n - 1) y) n ≡ Some y
set_there xs zero x y there = absurd (cc)
set_there xs (suc k) x y there =
    let same : suc k - 1 ≡ k = omega arith in
    ap (λ p. slice_get (set xs p y) k) same ∙ slice_set_there xs k x y there

pub set_elsewhere : {X : Type 0} (xs : List X) (n : ℕ) (x y : X) → of_index xs n ≡ Some x → (other : ℕ) → other ≢ n → of_index (set xs (n - 1) y) other ≡ of_index xs other
set_elsewhere xs zero x y there other apart = absurd (cc)
set_elsewhere xs (suc k) x y there zero apart = refl
set_elsewhere xs (suc k) x y there (suc q) apart =
    let same : suc k - 1 ≡ k = omega arith in
    ap (λ p. slice_get (set xs p y) q) same ∙ slice_set_other xs k y q (λ e. apart (ap suc e))

-- ---- what is declared

some_of : {X : Type 0} (o : Option X) → o ≢ None → is_some o ≡ true
some_of None never = absurd (never refl)
some_of (Some x) never = refl

module _ (program : Declarations) (task priority object : ℕ) (declared : ObjectDeclaration) where
  abbrev has : Operation → Option ObjectDeclaration → Bool
  has operation found = is_some_and (λ (d : ObjectDeclaration). has_operation operation (operations_of d)) found

  offered : (operation : Operation) → of_index program.objects.items object ≡ Some declared → Offers (operations_of declared) operation → is_offered program object operation ≡ true
  offered (Function index) is offers = ap (has (Function index)) is ∙ some_of (of_index (operations_of declared).functions.items index) offers
  offered (Procedure index) is offers = ap (has (Procedure index)) is ∙ some_of (of_index (operations_of declared).procedures.items index) offers
  offered (Entry index) is offers = ap (has (Entry index)) is ∙ some_of (of_index (operations_of declared).entries.items index) offers
  offered (SetTimer index) is offers = absurd offers
  offered (CancelTimer index) is offers = absurd offers

  task_and : (operation : Operation) → of_index program.priorities.items task ≡ Some priority → is_offered program object operation ≡ true → is_declared program task object operation ≡ true
  task_and operation is offers = ap (λ (o : Option ℕ). is_some o && is_offered program object operation) is ∙ offers

  declared_is : (operation : Operation) → IsDeclaredCall program task priority object declared operation → is_declared program task object operation ≡ true
  declared_is operation is = task_and operation is.task_is (offered operation is.object_is is.offers)

  ceiling_test : (operation : Operation) → IsDeclaredCall program task priority object declared operation → is_within_ceiling program task object ≡ nat_le priority declared.ceiling
  ceiling_test operation is =
      ap (is_some_and (λ (p : ℕ). is_some_and (λ (d : ObjectDeclaration). nat_le p d.ceiling) (of_index program.objects.items object))) is.task_is
      ∙ ap (is_some_and (λ (d : ObjectDeclaration). nat_le priority d.ceiling)) is.object_is

-- ---- a call that is refused

pub refused_with : (running : Running) (call : Waiting) (object : ℕ) (operation : Operation) (reply : Replies) → called running.program running.state call object operation ≡ ends_with (Reply reply) running.state → IsRefusedWith running call object operation reply
refused_with running call object operation reply does = record {
  unchanged = ap (λ (r : Result). record running { state = r.after }) does;
  replied = ap (λ (r : Result). own_answer (call_name_of call) r.caller ++ r.replied) does;
}

module _ (program : Declarations) (before : ProgramState) (call : Waiting) (object : ℕ) where
  -- what is declared is allowed
  when_declared : (operation : Operation) → is_declared program call.task object operation ≡ true → called program before call object operation ≡ allowed program before call object operation
  when_declared operation is = ap (λ b. cond {A = Result} b (allowed program before call object operation) (ends_with (Reply NoSuchOperation) before)) is

  pub when_undeclared : (operation : Operation) → is_declared program call.task object operation ≡ false → called program before call object operation ≡ ends_with (Reply NoSuchOperation) before
  when_undeclared operation is = ap (λ b. cond {A = Result} b (allowed program before call object operation) (ends_with (Reply NoSuchOperation) before)) is

  -- a call of an object's operation is allowed within the ceiling
  allowed_is : (operation : Operation) (request : Request) → IsRequestOf operation call request → allowed program before call object operation ≡ cond {A = Result} (is_within_ceiling program call.task object) (asks before object request) (ends_with (Reply ProgramError) before)
  allowed_is (Function index) request is = ap (λ (r : Request). cond {A = Result} (is_within_ceiling program call.task object) (asks before object r) (ends_with (Reply ProgramError) before)) (sym is)
  allowed_is (Procedure index) request is = ap (λ (r : Request). cond {A = Result} (is_within_ceiling program call.task object) (asks before object r) (ends_with (Reply ProgramError) before)) (sym is)
  allowed_is (Entry index) request is = ap (λ (r : Request). cond {A = Result} (is_within_ceiling program call.task object) (asks before object r) (ends_with (Reply ProgramError) before)) (sym is)
  allowed_is (SetTimer index) request is = absurd is
  allowed_is (CancelTimer index) request is = absurd is

  module _ (priority : ℕ) (declared : ObjectDeclaration) (operation : Operation) (request : Request) (is : IsDeclaredCall program call.task priority object declared operation) (asked : IsRequestOf operation call request) where
    by_ceiling : called program before call object operation ≡ cond {A = Result} (nat_le priority declared.ceiling) (asks before object request) (ends_with (Reply ProgramError) before)
    by_ceiling =
        when_declared operation (declared_is program call.task priority object declared operation is) ∙ allowed_is operation request asked
        ∙ ap (λ b. cond {A = Result} b (asks before object request) (ends_with (Reply ProgramError) before)) (ceiling_test program call.task priority object declared operation is)

    pub above_ceiling : declared.ceiling < priority → called program before call object operation ≡ ends_with (Reply ProgramError) before
    above_ceiling above =
        let test : nat_le priority declared.ceiling ≡ false = grind (arith, nat_tests, above) in
        by_ceiling ∙ ap (λ b. cond {A = Result} b (asks before object request) (ends_with (Reply ProgramError) before)) test

    pub within_ceiling : priority ≤ declared.ceiling → called program before call object operation ≡ asks before object request
    within_ceiling within =
        let test : nat_le priority declared.ceiling ≡ true = grind (arith, nat_tests, within) in
        by_ceiling ∙ ap (λ b. cond {A = Result} b (asks before object request) (ends_with (Reply ProgramError) before)) test

-- the request of a call of an object's operation
pub request_of : (operation : Operation) (call : Waiting) (operations : Operations) → Offers operations operation → (request : Request) × IsRequestOf operation call request
request_of (Function index) call operations offers = (calls_function index call.arg, refl)
request_of (Procedure index) call operations offers = (calls_procedure index call.arg, refl)
request_of (Entry index) call operations offers = (calls_entry index call, refl)
request_of (SetTimer index) call operations offers = absurd offers
request_of (CancelTimer index) call operations offers = absurd offers

-- ---- a call that is an action

abbrev pub IsOfTask : Request → Type 0
IsOfTask (calls_function index arg) = Unit {0}
IsOfTask (calls_procedure index arg) = Unit {0}
IsOfTask (calls_entry index call) = Unit {0}
IsOfTask (event index) = ⊥

pub of_task : (operation : Operation) (call : Waiting) (request : Request) → IsRequestOf operation call request → IsOfTask request
of_task (Function index) call request is = subst IsOfTask (sym is) tt
of_task (Procedure index) call request is = subst IsOfTask (sym is) tt
of_task (Entry index) call request is = subst IsOfTask (sym is) tt
of_task (SetTimer index) call request is = absurd is
of_task (CancelTimer index) call request is = absurd is

has_outcome : {operations : Operations} {before after : State} {request : Request} {caller : Option CallOutcome} {replied : List Answer} → Acts operations before request caller replied after → IsOfTask request → (outcome : CallOutcome) × (caller ≡ Some outcome)
has_outcome (function {arg = arg} there) task = (_, refl)
has_outcome (procedure {outcome = outcome} there ran) task = (outcome, refl)
has_outcome (open_entry {outcome = outcome} there up ran) task = (outcome, refl)
has_outcome (closed_entry there shut room) task = (Waits, refl)
has_outcome (full_queue there shut full) task = (Reply ProgramError, refl)
has_outcome (handler there ran) task = absurd task
has_outcome (no_function none) task = (Reply NoSuchOperation, refl)
has_outcome (no_procedure none) task = (Reply NoSuchOperation, refl)
has_outcome (no_entry none) task = (Reply NoSuchOperation, refl)
has_outcome (no_handler none) task = absurd task

no_caller : {operations : Operations} {before after : State} {index : ℕ} {caller : Option CallOutcome} {replied : List Answer} → Acts operations before (event index) caller replied after → caller ≡ None
no_caller (handler there ran) = refl
no_caller (no_handler none) = refl

replies_first : (call : Waiting) (outcome : CallOutcome) (served : List Answer) → RepliesFirst call outcome served (own_answer (call_name_of call) (Some outcome) ++ served)
replies_first call (Reply reply) served = refl
replies_first call Waits served = refl

-- one object is replaced
changes_object : (running : Running) (number : ℕ) (object new : Protected) → of_index running.state.objects number ≡ Some object → ChangesObject number new running (record running { state = with_object running.state number new })
changes_object running number object new there = record {
  changed = set_there running.state.objects number object new there;
  others = set_elsewhere running.state.objects number object new there;
  timers = refl;
  clock = refl;
  program = refl;
}

abbrev pub call_result : Running → Waiting → ℕ → Protected → Request → Result → Type 0
call_result running call number object request result = IsCallOf running call number object request (own_answer (call_name_of call) result.caller ++ result.replied) (record running { state = result.after })

pub is_call_of : (running : Running) (call : Waiting) (number : ℕ) (object : Protected) (request : Request) → of_index running.state.objects number ≡ Some object → IsOfTask request → call_result running call number object request (asks running.state number request)
is_call_of running call number object request there task =
    let did = acted object.operations object.state request in
    let acts = is_acted object.operations object.state request in
    let has = has_outcome acts task in
    let new : Protected = record object { state = did.after } in
    let does : object_acts running.state number request (Some object) ≡ asks running.state number request = sym (ap (object_acts running.state number request) there) in
    let is : IsCallOf running call number object request (own_answer (call_name_of call) did.caller ++ did.replied) (record running { state = with_object running.state number new }) = record {
      outcome = has.0;
      served = did.replied;
      state = did.after;
      action = subst (λ (c : Option CallOutcome). Acts object.operations object.state request c did.replied did.after) has.1 acts;
      replies = subst (λ (c : Option CallOutcome). RepliesFirst call has.0 did.replied (own_answer (call_name_of call) c ++ did.replied)) (sym has.1) (replies_first call has.0 did.replied);
      follows = changes_object running number object new there;
    } in
    subst (call_result running call number object request) does is

-- ---- timing events

changes_timer : (running : Running) (number : ℕ) (was time : Option ℤ) → of_index running.state.timers number ≡ Some was → ChangesTimer number time running (record running { state = with_timer running.state number time })
changes_timer running number was time there = record {
  changed = set_there running.state.timers number was time there;
  others = set_elsewhere running.state.timers number was time there;
  objects = refl;
  clock = refl;
  program = refl;
}

abbrev pub timer_result : Running → Waiting → ℕ → Option ℤ → Replies → Result → Type 0
timer_result running call number time reply result =
    ChangesTimer number time running (record running { state = result.after })
    × (own_answer (call_name_of call) result.caller ++ result.replied ≡ record { task = call.task; number = call.number; reply = reply } ∷ [])

pub is_timer_of : (running : Running) (call : Waiting) (number : ℕ) (was time : Option ℤ) (reply : Replies) (result : Result) → of_index running.state.timers number ≡ Some was → result ≡ ends_with (Reply reply) (with_timer running.state number time) → timer_result running call number time reply result
is_timer_of running call number was time reply result there does =
    subst (timer_result running call number time reply) (sym does) (changes_timer running number was time there, refl)

module _ (program : Declarations) (before : ProgramState) (call : Waiting) (object number priority : ℕ) (timer : TimingEvent) (task_is : of_index program.priorities.items call.task ≡ Some priority) (timer_is : of_index program.timers.items number ≡ Some timer) (its : timer.handler.object ≡ object) where
  is_its : is_some_and (λ (t : TimingEvent). nat_eq t.handler.object object) (of_index program.timers.items number) ≡ true
  is_its =
      let test : nat_eq timer.handler.object object ≡ true = grind (arith, nat_tests, its) in
      ap (is_some_and (λ (t : TimingEvent). nat_eq t.handler.object object)) timer_is ∙ test

  pub sets_timer : called program before call object (SetTimer number) ≡ ends_with (Reply (Value (pos 0))) (with_timer before number (Some call.arg))
  sets_timer = when_declared program before call object (SetTimer number) (ap (λ (o : Option ℕ). is_some o && is_offered program object (SetTimer number)) task_is ∙ is_its)

  pub cancels_timer : (was : Option ℤ) → of_index before.timers number ≡ Some was → called program before call object (CancelTimer number) ≡ ends_with (Reply (Truth (is_some was))) (with_timer before number None)
  cancels_timer was there =
      when_declared program before call object (CancelTimer number) (ap (λ (o : Option ℕ). is_some o && is_offered program object (CancelTimer number)) task_is ∙ is_its)
      ∙ ap (λ (o : Option (Option ℤ)). ends_with (Reply (Truth (is_some (option_and_then (λ time. time) o)))) (with_timer before number None)) there

-- ---- what is not declared

and_false : (a b : Bool) → b ≡ false → (a && b) ≡ false
and_false true b is = is
and_false false b is = refl

module _ (program : Declarations) (task object : ℕ) where
  abbrev found_with : Operation → Option ObjectDeclaration → Bool
  found_with operation found = is_some_and (λ (d : ObjectDeclaration). has_operation operation (operations_of d)) found

  abbrev found_timer : Option TimingEvent → Bool
  found_timer found = is_some_and (λ (t : TimingEvent). nat_eq t.handler.object object) found

  not_offered : (operation : Operation) → is_offered program object operation ≡ false → is_declared program task object operation ≡ false
  not_offered operation is = and_false (is_some (of_index program.priorities.items task)) (is_offered program object operation) is

  not_its : (timer : TimingEvent) → timer.handler.object ≢ object → nat_eq timer.handler.object object ≡ false
  not_its timer apart = grind (arith, nat_tests, apart)

  pub not_declared : {operation : Operation} → IsUndeclared program task object operation → is_declared program task object operation ≡ false
  not_declared {operation} (rules.no_task none) = ap (λ (o : Option ℕ). is_some o && is_offered program object operation) none
  not_declared (rules.no_object_function {index = index} none) = not_offered (Function index) (ap (found_with (Function index)) none)
  not_declared (rules.no_object_procedure {index = index} none) = not_offered (Procedure index) (ap (found_with (Procedure index)) none)
  not_declared (rules.no_object_entry {index = index} none) = not_offered (Entry index) (ap (found_with (Entry index)) none)
  not_declared (rules.no_function {index = index} is none) = not_offered (Function index) (ap (found_with (Function index)) is ∙ ap is_some none)
  not_declared (rules.no_procedure {index = index} is none) = not_offered (Procedure index) (ap (found_with (Procedure index)) is ∙ ap is_some none)
  not_declared (rules.no_entry {index = index} is none) = not_offered (Entry index) (ap (found_with (Entry index)) is ∙ ap is_some none)
  not_declared (rules.no_event_to_set {index = index} none) = not_offered (SetTimer index) (ap found_timer none)
  not_declared (rules.no_event_to_cancel {index = index} none) = not_offered (CancelTimer index) (ap found_timer none)
  not_declared (rules.other_event_to_set {index = index} {timer = timer} is apart) = not_offered (SetTimer index) (ap found_timer is ∙ not_its timer apart)
  not_declared (rules.other_event_to_cancel {index = index} {timer = timer} is apart) = not_offered (CancelTimer index) (ap found_timer is ∙ not_its timer apart)

-- ---- interrupts

abbrev interrupt_result : Running → Handler → Protected → Result → Type 0
interrupt_result running by object result =
    (state : State)
    × Acts object.operations object.state (event by.procedure) None result.replied state
    × ChangesObject by.object (record object { state = state }) running (record running { state = result.after })

pub is_interrupt_of : (running : Running) (found : Option Handler) (by : Handler) (object : Protected) → found ≡ Some by → of_index running.state.objects by.object ≡ Some object → interrupt_result running by object (handled running.state found)
is_interrupt_of running found by object is there =
    let request = event by.procedure in
    let did = acted object.operations object.state request in
    let acts = is_acted object.operations object.state request in
    let new : Protected = record object { state = did.after } in
    let does : object_acts running.state by.object request (Some object) ≡ handled running.state found = sym (ap (handled running.state) is ∙ ap (object_acts running.state by.object request) there) in
    subst (interrupt_result running by object) does (
      did.after,
      subst (λ (c : Option CallOutcome). Acts object.operations object.state request c did.replied did.after) (no_caller acts) acts,
      changes_object running by.object object new there,
    )
