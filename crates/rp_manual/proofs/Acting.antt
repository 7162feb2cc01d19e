-- The cases of a protected action.
use Rattle.std.proofs.Common.{◌≡◌, ◌<◌, ◌≤◌, ◌-◌, ℕ, ℤ, pos, Bool, true, false, cond, List, [], ◌∷◌, ◌++◌, length, Option, Some, None, unwrap_or, Vec, Global, refl, sym, ◌∙◌, ap, subst, arith, get_or-set_same, get_or-set_other, FitsSigned, w64}
use Rattle.std.specs.FinMap.{get}
use Rattle.std.proofs.lemmas.Bool.{false≢true}
use Rattle.rp_object.specs.rp_base.specs.declared.reply.Reply.{Reply as Replies}
use Rattle.rp_object.specs.rp_base.specs.declared.reply.Reply.TheVariants.{Value, ConstraintError, ProgramError}
use Rattle.rp_object.specs.rp_base.specs.declared.reply.Answer.{Answer}
use Rattle.rp_object.specs.rp_body.specs.declared.statement.Stmt.{Stmt}
use Rattle.rp_object.specs.rp_body.specs.declared.statement.Outcome.{Outcome}
use Rattle.rp_object.specs.rp_body.specs.Store.{Store, bool_value}
use Rattle.rp_object.specs.rp_body.specs.Expressions.{fits_64}
use Rattle.rp_object.specs.rp_body.specs.Meaning.{body_effect}
use Rattle.rp_object.specs.rp_entry.specs.declared.operations.Function.{Function}
use Rattle.rp_object.specs.rp_entry.specs.declared.operations.Entry.{Entry}
use Rattle.rp_object.specs.rp_entry.specs.declared.operations.Operations.{Operations}
use Rattle.rp_object.specs.rp_entry.specs.declared.state.Waiting.{Waiting}
use Rattle.rp_object.specs.rp_entry.specs.declared.state.CallOutcome.{CallOutcome}
use Rattle.rp_object.specs.rp_entry.specs.declared.state.CallOutcome.TheVariants.{Reply, Waits}
use Rattle.rp_object.specs.rp_entry.specs.Operations.{of_index}
use Rattle.rp_object.specs.rp_entry.specs.Queue.{State, IsOpen, queue_at}
use Rattle.rp_object.specs.rp_entry.specs.Replies.{reply_of, function_reply}
use Rattle.rp_object.specs.rp_entry.specs.Servicing.{Services}
use Rattle.rp_object.specs.rp_entry.specs.Actions.{Runs, Acts, calls_function, calls_procedure, calls_entry, event, function, procedure, open_entry, closed_entry, full_queue, handler, no_function, no_procedure, no_entry, no_handler, with_caller}
use Rattle.rp_object.specs.rp_entry.proofs.Acting.{missing, one_item}
use Rattle.rp_object.specs.rp_entry.proofs.Queues.{index_there}
use Rattle.rp_manual.proofs.Assigning.{fits_is, fits_from}
use Rattle.rp_manual.specs.ObjectRules.{left_by, outcome_at_end, RunsForCaller, JoinsLast}

-- ---- barriers

pub opens : (store : Store) (name : ℕ) → get store.bools name ≡ Some true → bool_value store name ≡ true
opens store name is = ap (λ (o : Option Bool). unwrap_or o false) is

pub shuts : (store : Store) (name : ℕ) → get store.bools name ≡ Some false → ¬ (bool_value store name ≡ true)
shuts store name is up = false≢true (sym (ap (λ (o : Option Bool). unwrap_or o false) is) ∙ up)

pub is_there : (found : Option Bool) → unwrap_or found false ≡ true → found ≡ Some true
is_there None up = absurd (false≢true up)
is_there (Some b) up = ap Some up

-- ---- bodies

runs_for_caller : {operations : Operations} {body other : List Stmt} {arg : ℤ} {before after : State} {outcome : CallOutcome} {replied : List Answer}
    → body ≡ other → Runs operations body arg before outcome replied after → RunsForCaller operations other arg before (Some outcome) replied after
runs_for_caller {operations} {body} {other} {arg} {before} {after} {outcome} {replied} same ran =
    let run : body_effect other arg before.store ≡ (ran.store, ran.ended) = ap (λ (b : List Stmt). body_effect b arg before.store) (sym same) ∙ ran.run in
    let left : left_by other arg before ≡ ran.store = ap (λ (r : Store × Outcome). r.0) run in
    let ended : outcome_at_end other arg before ≡ ran.ended = ap (λ (r : Store × Outcome). r.1) run in
    record {
      value = λ out is. ap Some (ran.replied ∙ ap (λ (o : Outcome). Reply (reply_of o)) (sym ended ∙ is));
      exception = λ is. ap Some (ran.replied ∙ ap (λ (o : Outcome). Reply (reply_of o)) (sym ended ∙ is));
      serviced = subst (λ (s : Store). Services operations (record before { store = s }) replied after) (sym left) ran.serviced;
    }

items_same : {one other : Vec Stmt Global} → one ≡ other → one.items ≡ other.items
items_same same = ap (λ (v : Vec Stmt Global). v.items) same

bodies_same : {one other : Entry} → one ≡ other → one.body.items ≡ other.body.items
bodies_same same = ap (λ (e : Entry). e.body.items) same

-- ---- functions

pub constant : {operations : Operations} {before after : State} {index : ℕ} {arg : ℤ} {caller : Option CallOutcome} {replied : List Answer} → Acts operations before (calls_function index arg) caller replied after → (after ≡ before) × (replied ≡ [])
constant (function there) = (refl, refl)
constant (no_function none) = (refl, refl)

pub replies : {operations : Operations} {before after : State} {index : ℕ} {arg : ℤ} {caller : Option CallOutcome} {replied : List Answer} (called : Function) → of_index operations.functions.items index ≡ Some called → Acts operations before (calls_function index arg) caller replied after → caller ≡ Some (Reply (function_reply called before.store arg))
replies {before = before} {arg = arg} called declared (function there) = ap (λ (f : Function). Some (Reply (function_reply f before.store arg))) (one_item there declared)
replies called declared (no_function none) = absurd (missing declared none)

abbrev value_reply : ℤ → Bool → Replies
value_reply value fits = cond {A = Replies} fits (Value value) ConstraintError

pub value_replied : (value : ℤ) → FitsSigned w64 value → value_reply value (fits_64 value) ≡ Value value
value_replied value fits = ap (value_reply value) (fits_is value fits)

pub beyond_replied : (value : ℤ) → ¬ FitsSigned w64 value → value_reply value (fits_64 value) ≡ ConstraintError
beyond_replied value never =
    elim (fits_64 value) as (λ b. fits_64 value ≡ b → value_reply value b ≡ ConstraintError) [ true ↦ (λ is. absurd (never (fits_from value is))) | false ↦ (λ is. refl) ] refl

-- ---- procedures, entries and handlers

pub procedure_runs : {operations : Operations} {before after : State} {index : ℕ} {arg : ℤ} {caller : Option CallOutcome} {replied : List Answer} (body : Vec Stmt Global) → of_index operations.procedures.items index ≡ Some body → Acts operations before (calls_procedure index arg) caller replied after → RunsForCaller operations body.items arg before caller replied after
procedure_runs body declared (procedure there ran) = runs_for_caller (items_same (one_item there declared)) ran
procedure_runs body declared (no_procedure none) = absurd (missing declared none)

pub event_runs : {operations : Operations} {before after : State} {index : ℕ} {caller : Option CallOutcome} {replied : List Answer} (body : Vec Stmt Global) → of_index operations.procedures.items index ≡ Some body → Acts operations before (event index) caller replied after → (caller ≡ None) × Services operations (record before { store = left_by body.items (pos 0) before }) replied after
event_runs body declared (handler there ran) = (refl, (runs_for_caller (items_same (one_item there declared)) ran).serviced)
event_runs body declared (no_handler none) = absurd (missing declared none)

open_at : {one other : Entry} (store : Store) → one ≡ other → get store.bools other.barrier ≡ Some true → IsOpen one store
open_at store same is = subst (λ (e : Entry). IsOpen e store) (sym same) (opens store _ is)

shut_at : {one other : Entry} (store : Store) → one ≡ other → get store.bools other.barrier ≡ Some false → ¬ IsOpen one store
shut_at store same is up = shuts store _ is (subst (λ (e : Entry). IsOpen e store) same up)

pub entry_runs : {operations : Operations} {before : State} {index : ℕ} {call : Waiting} {after : State} {caller : Option CallOutcome} {replied : List Answer} (entry : Entry) → of_index operations.entries.items index ≡ Some entry → get before.store.bools entry.barrier ≡ Some true → Acts operations before (calls_entry index call) caller replied after → RunsForCaller operations entry.body.items call.arg before caller replied after
entry_runs entry declared up (open_entry there opened ran) = runs_for_caller (bodies_same (one_item there declared)) ran
entry_runs {before = before} entry declared up (closed_entry there shut room) = absurd (shut (open_at before.store (one_item there declared) up))
entry_runs {before = before} entry declared up (full_queue there shut full) = absurd (shut (open_at before.store (one_item there declared) up))
entry_runs entry declared up (no_entry none) = absurd (missing declared none)

longest_same : {one other : Entry} → one ≡ other → one.longest ≡ other.longest
longest_same same = ap (λ (e : Entry). e.longest) same

pub joins_last : (operations : Operations) (before : State) (index : ℕ) (entry : Entry) (call : Waiting) → length before.queues ≡ length operations.entries.items → of_index operations.entries.items index ≡ Some entry → JoinsLast index call before (with_caller before index call)
joins_last operations before index entry call each declared =
    let within = index_there operations.entries.items index entry declared in
    let below : index - 1 < length before.queues = omega (arith, within.0, within.1, each) in
    let longer = queue_at before.queues (index - 1) ++ call ∷ [] in
    record {
      last = get_or-set_same before.queues (index - 1) longer [] below;
      others = λ place apart. get_or-set_other before.queues (index - 1) place longer [] apart;
      store = refl;
    }

pub entry_waits : {operations : Operations} {before : State} {index : ℕ} {call : Waiting} {after : State} {caller : Option CallOutcome} {replied : List Answer} (entry : Entry) → length before.queues ≡ length operations.entries.items → of_index operations.entries.items index ≡ Some entry → get before.store.bools entry.barrier ≡ Some false → length (queue_at before.queues (index - 1)) < entry.longest
    → Acts operations before (calls_entry index call) caller replied after → (caller ≡ Some Waits) × (replied ≡ []) × JoinsLast index call before after
entry_waits {before = before} entry each declared down room (open_entry there opened ran) = absurd (shut_at before.store (one_item there declared) down opened)
entry_waits {operations = operations} {before = before} {index = index} {call = call} entry each declared down room (closed_entry there shut here) = (refl, refl, joins_last operations before index entry call each declared)
entry_waits entry each declared down room (full_queue there shut full) = absurd (omega (arith, room, full, longest_same (one_item there declared)))
entry_waits entry each declared down room (no_entry none) = absurd (missing declared none)

pub entry_refuses : {operations : Operations} {before : State} {index : ℕ} {call : Waiting} {after : State} {caller : Option CallOutcome} {replied : List Answer} (entry : Entry) → of_index operations.entries.items index ≡ Some entry → get before.store.bools entry.barrier ≡ Some false → entry.longest ≤ length (queue_at before.queues (index - 1))
    → Acts operations before (calls_entry index call) caller replied after → (caller ≡ Some (Reply ProgramError)) × (replied ≡ []) × (after ≡ before)
entry_refuses {before = before} entry declared down full (open_entry there opened ran) = absurd (shut_at before.store (one_item there declared) down opened)
entry_refuses entry declared down full (closed_entry there shut room) = absurd (omega (arith, room, full, longest_same (one_item there declared)))
entry_refuses entry declared down full (full_queue there shut here) = (refl, refl, refl)
entry_refuses entry declared down full (no_entry none) = absurd (missing declared none)
