-- Who waited, who is answered and who waits.
use Rattle.std.proofs.Common.{◌≡◌, ◌-◌, ◌⊎◌, inl, inr, ℕ, zero, suc, ℤ, Bool, true, false, cond}
use Rattle.std.proofs.Common.{List, [], ◌∷◌, ◌++◌, length, set, map, Option, Some, None, refl, sym}
use Rattle.std.proofs.Common.{◌∙◌, ap, subst, append_assoc, arith}
use Rattle.std.specs.Prelude.{flat_map, slice_get, is_some, nat_lt, max, ◌&&◌, Vec}
use Rattle.std.specs.declared.alloc.Global.{Global}
use Rattle.rp_base.specs.Sets.{Has, IsSet}
use Rattle.rp_base.specs.declared.action.Action.{Action}
use Rattle.rp_base.specs.declared.action.Action.TheVariants.{Noop, Call, Interrupt, Tick}
use Rattle.rp_base.specs.declared.action.Operation.{Operation}
use Rattle.rp_base.specs.declared.action.Operation.TheVariants.{Function, Procedure, Entry}
use Rattle.rp_base.specs.declared.action.Operation.TheVariants.{SetTimer, CancelTimer}
use Rattle.rp_base.specs.declared.reply.Answer.{Answer}
use Rattle.rp_base.specs.declared.reply.Reply.{Reply as CallReply}
use Rattle.rp_base.specs.declared.reply.Reply.TheVariants.{ProgramError, NoSuchOperation}
use Rattle.rp_entry.specs.rp_body.specs.declared.statement.Stmt.{Stmt}
use Rattle.rp_entry.specs.rp_body.specs.Store.{bool_value}
use Rattle.rp_entry.specs.rp_body.specs.Meaning.{body_effect}
use Rattle.rp_entry.specs.declared.operations.Operations.{Operations}
use Rattle.rp_entry.specs.declared.operations.Function.{Function as Called}
use Rattle.rp_entry.specs.declared.operations.Entry.{Entry as Gate}
use Rattle.rp_entry.specs.declared.state.CallOutcome.TheVariants.{Reply, Waits}
use Rattle.rp_entry.specs.Queue.{State, queue_at, all_calls}
use Rattle.rp_entry.specs.Replies.{reply_of, function_reply}
use Rattle.rp_entry.specs.declared.state.Waiting.{Waiting}
use Rattle.rp_entry.specs.declared.state.CallOutcome.{CallOutcome}
use Rattle.rp_entry.specs.Operations.{of_index}
use Rattle.rp_entry.specs.Protected.{Protected}
use Rattle.rp_entry.specs.Actions.{Request, Acts, calls_function, calls_procedure, calls_entry}
use Rattle.rp_entry.specs.Actions.{event, with_caller}
use Rattle.rp_entry.specs.Results.{acted, replies_with, ran_for, function_called, procedure_called}
use Rattle.rp_entry.specs.Results.{entry_called}
use Rattle.rp_entry.specs.Accounting.{joins}
use Rattle.rp_entry.specs.Accounting as entry
use Rattle.rp_entry.proofs.Results.{is_acted}
use Rattle.rp_entry.proofs.Accounting.{acts_leave}
use Rattle.rp_entry.proofs.Permuting.{Perm, same, following, chain, permuted, mapped_permuted}
use Rattle.rp_entry.proofs.Permuting.{in_front, at_end, some_first, back, has_permuted}
use Rattle.rp_entry.proofs.Permuting.{set_permuted, has_left, has_right, has_either, set_left}
use Rattle.rp_entry.proofs.Permuting.{apart}
use Rattle.rp_machine.specs.Calls.{CallName, call_of, calls_of, AccountsFor}
use Rattle.rp_object.specs.State.{ProgramState, call_name_of}
use Rattle.rp_object.specs.declared.program.Handler.{Handler}
use Rattle.rp_object.specs.declared.program.Declarations.{Declarations}
use Rattle.rp_object.specs.Program.{operations_of, has_operation, is_some_and, object_has}
use Rattle.rp_object.specs.Program.{is_offered, is_declared, is_within_ceiling, interrupt_handler}
use Rattle.rp_object.specs.Program.{timer_handler}
use Rattle.rp_object.specs.Timers.{due_events}
use Rattle.rp_object.specs.Step.{Result, waiting_at, object_acts, asks, ends_with, asks_within}
use Rattle.rp_object.specs.Step.{allowed, called, handled, fires, fire, with_timer, program_step}
use Rattle.rp_object.specs.Step.{own_answer, answers_of}
use Rattle.rp_object.specs.Reached.{HaveQueues}
use Rattle.rp_object.proofs.MachineLaws.Queues.{acts_many}

-- a call by its task and number
abbrev named : ℕ × ℕ → CallName
named p = record { task = p.0; number = p.1 }

names_same : (calls : List Waiting) → map named (map entry.waiting_key calls) ≡ map call_name_of calls
names_same [] = refl
names_same (call ∷ rest) = ap (λ (l : List CallName). call_name_of call ∷ l) (names_same rest)

answers_same : (replied : List Answer)
    → map named (map entry.answered_caller replied) ≡ map call_of replied
answers_same [] = refl
answers_same (answer ∷ rest) = ap (λ (l : List CallName). call_of answer ∷ l) (answers_same rest)

pub map_append : {A B : Type 0} (f : A → B) (xs ys : List A)
    → map f (xs ++ ys) ≡ map f xs ++ map f ys
map_append f [] ys = refl
map_append f (x ∷ xs) ys = ap (λ l. f x ∷ l) (map_append f xs ys)

-- those that wait at one object, and the call that joins them
pub one_leaves : {operations : Operations} {before after : State} {request : Request}
    {caller : Option CallOutcome}
    {replied : List Answer} → length before.queues ≡ length operations.entries.items
    → Acts operations before request caller replied after
    → Perm (map call_name_of (joins request caller) ++ map call_name_of (all_calls before.queues))
    (map call_of replied ++ map call_name_of (all_calls after.queues))
one_leaves {before = before} {after = after} {request = request} {caller = caller}
    {replied = replied} each acts =
    let own = joins request caller in
    let waited = all_calls before.queues in
    let waiting = all_calls after.queues in
    chain (permuted (sym (map_append call_name_of own waited) ∙ sym (names_same (own ++ waited))))
    (chain (mapped_permuted named (acts_leave each acts))
    (permuted (map_append named (map entry.answered_caller replied) (map entry.waiting_key waiting)
    ∙ ap (λ (l : List CallName). l ++ map named (map entry.waiting_key waiting)) (answers_same replied)
    ∙ ap (λ (l : List CallName). map call_of replied ++ l) (names_same waiting))))

abbrev pub all_waiting : List Protected → List CallName
all_waiting objects = flat_map waiting_at objects

-- the same of all objects
pub among : (objects : List Protected) (place : ℕ) (object new : Protected)
    (more replied : List CallName)
    → slice_get objects place ≡ Some object
    → Perm (more ++ waiting_at object) (replied ++ waiting_at new)
    → Perm (more ++ all_waiting objects) (replied ++ all_waiting (set objects place new))
among [] place object new more replied there accounts = absurd (cc)
among (one ∷ rest) zero object new more replied there accounts =
    let is : one ≡ object = cc in
    let first : Perm (more ++ waiting_at one) (replied ++ waiting_at new) =
    subst (λ (o : Protected). Perm (more ++ waiting_at o) (replied ++ waiting_at new)) (sym is)
    accounts in
    chain (permuted (sym (append_assoc more (waiting_at one) (all_waiting rest))))
    (chain (at_end (all_waiting rest) first)
    (permuted (append_assoc replied (waiting_at new) (all_waiting rest))))
among (one ∷ rest) (suc place) object new more replied there accounts =
    chain (some_first more (waiting_at one) (all_waiting rest))
    (chain (in_front (waiting_at one) (among rest place object new more replied there accounts))
    (some_first (waiting_at one) replied (all_waiting (set rest place new))))

-- each object has its queues
pub has_each : (objects : List Protected) (place : ℕ) (object : Protected) → HaveQueues objects
    → slice_get objects place ≡ Some object
    → length object.state.queues ≡ length object.operations.entries.items
has_each [] place object each there = absurd (cc)
has_each (one ∷ rest) zero object each there =
    let is : one ≡ object = cc in
    subst (λ (o : Protected). length o.state.queues ≡ length o.operations.entries.items) is each.0
has_each (one ∷ rest) (suc place) object each there = has_each rest place object each.1 there

still_each : (objects : List Protected) (place : ℕ) (new : Protected) → HaveQueues objects
    → length new.state.queues ≡ length new.operations.entries.items
    → HaveQueues (set objects place new)
still_each [] place new each many = tt
still_each (one ∷ rest) zero new each many = (many, each.1)
still_each (one ∷ rest) (suc place) new each many = (each.0, still_each rest place new each.1 many)

joins_none : (request : Request) → joins request None ≡ []
joins_none (calls_function index arg) = refl
joins_none (calls_procedure index arg) = refl
joins_none (calls_entry index call) = refl
joins_none (event handler) = refl

-- the calls that an action of an object leaves and answers
abbrev Accounts : ProgramState → Request → Result → Type 0
Accounts before request result =
    Perm (map call_name_of (joins request result.caller) ++ all_waiting before.objects)
    (map call_of result.replied ++ all_waiting result.after.objects)

object_accounts : (before : ProgramState) (number : ℕ) (request : Request)
    (found : Option Protected)
    → HaveQueues before.objects → of_index before.objects number ≡ found
    → Accounts before request (object_acts before number request found)
object_accounts before number request None each none =
    permuted (ap (λ (l : List Waiting). map call_name_of l ++ all_waiting before.objects)
    (joins_none request))
object_accounts before zero request (Some object) each there = absurd (cc)
object_accounts before (suc place) request (Some object) each there =
    let did = acted object.operations object.state request in
    let new : Protected = record object { state = did.after } in
    let where_is : suc place - 1 ≡ place = omega arith in
    chain (among before.objects place object new (map call_name_of (joins request did.caller))
    (map call_of did.replied) there
    (one_leaves (has_each before.objects place object each there)
    (is_acted object.operations object.state request)))
    (permuted (ap (λ n. map call_of did.replied ++ all_waiting (set before.objects n new))
    (sym where_is)))

-- what an object is asked for
pub asked_accounts : (before : ProgramState) (number : ℕ) (request : Request)
    → HaveQueues before.objects
    → Accounts before request (asks before number request)
asked_accounts before number request each =
    object_accounts before number request (of_index before.objects number) each refl

-- each object has its queues still
object_each : (before : ProgramState) (number : ℕ) (request : Request) (found : Option Protected)
    → HaveQueues before.objects → of_index before.objects number ≡ found
    → HaveQueues (object_acts before number request found).after.objects
object_each before number request None each none = each
object_each before zero request (Some object) each there = absurd (cc)
object_each before (suc place) request (Some object) each there =
    let did = acted object.operations object.state request in
    still_each before.objects (suc place - 1) (record object { state = did.after }) each
    (acts_many (is_acted object.operations object.state request)
    ∙ has_each before.objects place object each there)

handled_each : (before : ProgramState) (found : Option Handler) → HaveQueues before.objects
    → HaveQueues (handled before found).after.objects
handled_each before None each = each
handled_each before (Some handler) each =
    object_each before handler.object (event handler.procedure)
    (of_index before.objects handler.object) each refl

-- the calls that a handler leaves and answers
abbrev Leaves : ProgramState → Result → Type 0
Leaves before result =
    Perm (all_waiting before.objects)
    (map call_of result.replied ++ all_waiting result.after.objects)

pub handled_accounts : (before : ProgramState) (found : Option Handler) → HaveQueues before.objects
    → Leaves before (handled before found)
handled_accounts before None each = same
handled_accounts before (Some handler) each =
    asked_accounts before handler.object (event handler.procedure) each

-- the calls that timing events leave and answer
pub fire_accounts : (program : Declarations) (before : ProgramState) (numbers : List ℕ)
    → HaveQueues before.objects
    → Leaves before (fire program before numbers)
fire_accounts program before [] each = same
fire_accounts program before (number ∷ rest) each =
    let one = fires program before number in
    let others = fire program one.after rest in
    chain (handled_accounts (with_timer before number None) (timer_handler program number) each)
    (chain (in_front (map call_of one.replied)
    (fire_accounts program one.after rest
    (handled_each (with_timer before number None) (timer_handler program number) each)))
    (permuted (sym (append_assoc (map call_of one.replied) (map call_of others.replied)
    (all_waiting others.after.objects))
    ∙ ap (λ (l : List CallName). l ++ all_waiting others.after.objects)
    (sym (map_append call_of one.replied others.replied)))))

-- ---- calls

-- a call of a function is over at once
function_over : (operations : Operations) (before : State) (index : ℕ) (arg : ℤ)
    (found : Option Called)
    → (r : CallReply) × ((function_called found arg before).caller ≡ Some (Reply r))
function_over operations before index arg None = (NoSuchOperation, refl)
function_over operations before index arg (Some called) =
    (function_reply called before.store arg, refl)

-- so is one of a procedure
procedure_over : (operations : Operations) (before : State) (arg : ℤ)
    (found : Option (Vec Stmt Global))
    → (r : CallReply) × ((procedure_called operations found arg before).caller ≡ Some (Reply r))
procedure_over operations before arg None = (NoSuchOperation, refl)
procedure_over operations before arg (Some body) =
    (reply_of (body_effect body.items arg before.store).1, refl)

-- one of an entry is over or waits
entry_answers : (operations : Operations) (found : Option Gate) (index : ℕ) (call : Waiting)
    (before : State)
    → (c : CallOutcome) × ((entry_called operations found index call before).caller ≡ Some c)
entry_answers operations None index call before = (Reply NoSuchOperation, refl)
entry_answers operations (Some entry) index call before =
    let ran = ran_for (λ outcome. Some outcome) operations entry.body.items call.arg before in
    let waits = replies_with Waits (with_caller before index call) in
    let room = nat_lt (length (queue_at before.queues (index - 1))) entry.longest in
    elim (bool_value before.store entry.barrier) as
    (λ b. (c : CallOutcome) ×
    ((cond b ran (cond room waits (replies_with (Reply ProgramError) before))).caller ≡ Some c)) [
      | true ↦ (Reply (reply_of (body_effect entry.body.items call.arg before.store).1), refl)
      | false ↦ elim room as (λ b. (c : CallOutcome)
          × ((cond b waits (replies_with (Reply ProgramError) before)).caller ≡ Some c))
          [ true ↦ (Waits, refl) | false ↦ (Reply ProgramError, refl) ]
    ]

-- the call and those that wait, those that are answered and those that wait after
abbrev CallLeaves : ProgramState → Waiting → Result → Type 0
CallLeaves before call result =
    Perm (call_name_of call ∷ all_waiting before.objects)
    (map call_of (own_answer (call_name_of call) result.caller ++ result.replied)
    ++ all_waiting result.after.objects)

over_leaves : (before : ProgramState) (call : Waiting) (result : Result) (r : CallReply)
    → result.caller ≡ Some (Reply r) → Leaves before result → CallLeaves before call result
over_leaves before call result r over leaves =
    subst (λ (c : Option CallOutcome). Perm (call_name_of call ∷ all_waiting before.objects)
    (map call_of (own_answer (call_name_of call) c ++ result.replied)
    ++ all_waiting result.after.objects)) (sym over)
    (following leaves)

outcome_leaves : (before : ProgramState) (index : ℕ) (call : Waiting) (result : Result)
    (c : CallOutcome)
    → result.caller ≡ Some c → Accounts before (calls_entry index call) result
    → CallLeaves before call result
outcome_leaves before index call result (Reply r) is accounts =
    over_leaves before call result r is
    (subst (λ (c : Option CallOutcome). Perm
    (map call_name_of (joins (calls_entry index call) c) ++ all_waiting before.objects)
    (map call_of result.replied ++ all_waiting result.after.objects)) is accounts)
outcome_leaves before index call result Waits is accounts =
    subst (λ (c : Option CallOutcome). Perm (call_name_of call ∷ all_waiting before.objects)
    (map call_of (own_answer (call_name_of call) c ++ result.replied)
    ++ all_waiting result.after.objects)) (sym is)
    (subst (λ (c : Option CallOutcome). Perm
    (map call_name_of (joins (calls_entry index call) c) ++ all_waiting before.objects)
    (map call_of result.replied ++ all_waiting result.after.objects)) is accounts)

-- an object that is there answers its caller
asked_there : (before : ProgramState) (number : ℕ) (request : Request) (object : Protected)
    → of_index before.objects number ≡ Some object
    → (asks before number request).caller ≡ (acted object.operations object.state request).caller
asked_there before number request object there =
    ap (λ (o : Option Protected). (object_acts before number request o).caller) there

-- one of two lists that are equally long has what the other has
also_there : {X Y : Type 0} (xs : List X) (ys : List Y) (index : ℕ) (x : X) → length xs ≡ length ys
    → of_index xs index ≡ Some x → (y : Y) × (of_index ys index ≡ Some y)
also_there xs ys zero x long there = absurd (cc)
also_there xs ys (suc i) x long there = at xs ys i x long there where
  at : {X Y : Type 0} (xs : List X) (ys : List Y) (i : ℕ) (x : X) → length xs ≡ length ys
      → slice_get xs i ≡ Some x
      → (y : Y) × (slice_get ys i ≡ Some y)
  at [] ys i x long there = absurd (cc)
  at (a ∷ xs) [] i x long there = absurd (omega (arith, long))
  at (a ∷ xs) (b ∷ ys) zero x long there = (b, refl)
  at (a ∷ xs) (b ∷ ys) (suc i) x long there = at xs ys i x (omega (arith, long)) there

declared_there : {X : Type 0} (test : X → Bool) (found : Option X) → is_some_and test found ≡ true
    → (x : X) × (found ≡ Some x)
declared_there test None holds = absurd (cc)
declared_there test (Some x) holds = (x, refl)

module _ (program : Declarations) (before : ProgramState)
    (long : length program.objects.items ≡ length before.objects)
    (each : HaveQueues before.objects) (call : Waiting) (object : ℕ) where
  object_there : (operation : Operation) → object_has program object operation ≡ true
      → (o : Protected) × (of_index before.objects object ≡ Some o)
  object_there operation has =
      let declared = declared_there (λ d. has_operation operation (operations_of d))
      (of_index program.objects.items object) has in
      also_there program.objects.items before.objects object declared.0 long declared.1

  within_leaves : (request : Request) → CallLeaves before call (asks before object request)
      → CallLeaves before call (asks_within program before call object request)
  within_leaves request leaves =
      elim (is_within_ceiling program call.task object) as
      (λ b. CallLeaves before call
      (cond b (asks before object request) (ends_with (Reply ProgramError) before)))
      [ true ↦ leaves | false ↦ same ]

  allowed_leaves : (operation : Operation) → is_offered program object operation ≡ true
      → CallLeaves before call (allowed program before call object operation)
  allowed_leaves (Function index) has =
      let o = object_there (Function index) has in
      let over = function_over o.0.operations o.0.state index call.arg
      (of_index o.0.operations.functions.items index) in
      within_leaves (calls_function index call.arg)
      (over_leaves before call (asks before object (calls_function index call.arg)) over.0
      (asked_there before object (calls_function index call.arg) o.0 o.1 ∙ over.1)
      (asked_accounts before object (calls_function index call.arg) each))
  allowed_leaves (Procedure index) has =
      let o = object_there (Procedure index) has in
      let over = procedure_over o.0.operations o.0.state call.arg
      (of_index o.0.operations.procedures.items index) in
      within_leaves (calls_procedure index call.arg)
      (over_leaves before call (asks before object (calls_procedure index call.arg)) over.0
      (asked_there before object (calls_procedure index call.arg) o.0 o.1 ∙ over.1)
      (asked_accounts before object (calls_procedure index call.arg) each))
  allowed_leaves (Entry index) has =
      let o = object_there (Entry index) has in
      let replied = entry_answers o.0.operations (of_index o.0.operations.entries.items index) index
      call o.0.state in
      within_leaves (calls_entry index call)
      (outcome_leaves before index call (asks before object (calls_entry index call)) replied.0
      (asked_there before object (calls_entry index call) o.0 o.1 ∙ replied.1)
      (asked_accounts before object (calls_entry index call) each))
  allowed_leaves (SetTimer index) has = same
  allowed_leaves (CancelTimer index) has = same

  second : (a b : Bool) → (a && b) ≡ true → b ≡ true
  second true b holds = holds
  second false b holds = absurd (cc)

  pub called_leaves : (operation : Operation)
      → CallLeaves before call (called program before call object operation)
  called_leaves operation =
      let declared = is_declared program call.task object operation in
      elim declared as (λ b. declared ≡ b
      → CallLeaves before call
      (cond b (allowed program before call object operation)
      (ends_with (Reply NoSuchOperation) before))) [
        | true ↦ λ holds. allowed_leaves operation
            (second (is_some (of_index program.priorities.items call.task))
            (is_offered program object operation) holds)
        | false ↦ λ fails. same
      ] refl

-- those that waited and the action's own call are those that are answered and those that wait after
-- it
pub step_leaves : (program : Declarations) (before : ProgramState) (action : Action)
    → length program.objects.items ≡ length before.objects → HaveQueues before.objects
    → (let result = program_step program before action in
    Perm (calls_of action ++ all_waiting before.objects)
    (map call_of (answers_of action result) ++ all_waiting result.after.objects))
step_leaves program before Noop long each = same
step_leaves program before (Call task number object operation arg) long each =
    called_leaves program before long each (record { task = task; number = number; arg = arg })
    object operation
step_leaves program before (Interrupt source occurrence) long each =
    handled_accounts before (interrupt_handler program source) each
step_leaves program before (Tick now) long each =
    fire_accounts program (record before { clock = max before.clock now })
    (due_events (max before.clock now) before.timers) each

-- so the answers are for distinct calls, the action's own or ones that waited, and exactly the
-- others wait
pub step_accounts : (waited : List CallName) (action : Action) (replied : List Answer)
    (waiting : List CallName)
    → IsSet (calls_of action ++ waited)
    → Perm (calls_of action ++ waited) (map call_of replied ++ waiting)
    → AccountsFor waited action replied waiting
step_accounts waited action replied waiting set leaves = record {
  distinct = set_left (map call_of replied) waiting (set_permuted leaves set);
  known = λ call answered. has_permuted call (back leaves)
      (has_left call (map call_of replied) waiting answered);
  waits = λ call. (
    (λ waits. (
      has_permuted call (back leaves) (has_right call (map call_of replied) waiting waits),
      (λ answered. apart call (map call_of replied) waiting (set_permuted leaves set) answered
          waits),
    )),
    (λ was. others call was.1
        (has_either call (map call_of replied) waiting (has_permuted call leaves was.0))),
  );
} where
  others : (call : CallName) → (¬ Has call (map call_of replied)) → Has call (map call_of replied)
      ⊎ Has call waiting → Has call waiting
  others call unanswered (inl answered) = absurd (unanswered answered)
  others call unanswered (inr waits) = waits
