-- The result of an action is the one that the relation holds of.
use Rattle.std.proofs.Common.{◌≡◌, ◌<◌, ◌≤◌, ◌-◌, ◌⊎◌, inl, inr, ℕ, zero, suc, ℤ, pos, Bool, true, false, cond, List, [], ◌∷◌, length, set, Option, Some, None, Vec, Global, refl, sym, ◌∙◌, ap, subst, arith}
use Rattle.std.specs.Prelude.{nat_lt, slice_get, ◌↔◌}
use Rattle.std.proofs.lemmas.Bool.{false≢true, cases_lt}
use Rattle.std.proofs.lemmas.Bool.Decides.{nat_tests}
use Rattle.std.proofs.Math.Logic.{⊎_elim}
use Rattle.rp_base.specs.declared.reply.Reply.TheVariants.{ProgramError}
use Rattle.rp_base.specs.declared.reply.Answer.{Answer}
use Rattle.rp_body.specs.declared.statement.Stmt.{Stmt}
use Rattle.rp_body.specs.Store.{Store, bool_value}
use Rattle.rp_body.specs.Meaning.{body_effect}
use Rattle.rp_entry.specs.declared.operations.Function.{Function}
use Rattle.rp_entry.specs.declared.operations.Entry.{Entry}
use Rattle.rp_entry.specs.declared.operations.Operations.{Operations}
use Rattle.rp_entry.specs.declared.state.Waiting.{Waiting}
use Rattle.rp_entry.specs.declared.state.CallOutcome.TheVariants.{Reply, Waits}
use Rattle.rp_entry.specs.Operations.{of_index}
use Rattle.rp_entry.specs.Queue.{State, IsOpen, IsReady, IsServiced, queue_at, all_calls}
use Rattle.rp_entry.specs.Replies.{reply_of}
use Rattle.rp_entry.specs.Servicing.{Serves, Services, ends, goes_on}
use Rattle.rp_entry.specs.Actions.{Request, Runs, Acts, calls_function, calls_procedure, calls_entry, event, function, procedure, open_entry, closed_entry, full_queue, handler, no_function, no_procedure, no_entry, no_handler, with_caller}
use Rattle.rp_entry.specs.Results.{Acted, Next, with_queue_first, next_to_serve, Serviced, served, serviced_from, serviced, replies_with, ran_for, function_called, procedure_called, entry_called, event_handled, acted}
use Rattle.rp_entry.proofs.Acting.{acts_one_end}
use Rattle.rp_entry.proofs.Queues.{one_less}

-- it is an action
abbrev pub IsActed : Operations → State → Request → Acted → Type 0
IsActed operations before request result = Acts operations before request result.caller result.replied result.after

-- ---- the call to be served next

abbrev at_stores : Store → List (List Waiting) → State
at_stores store queues = record { store = store; queues = queues }

-- it is the first of the first open entry that has a caller
record Found (store : Store) (entries : List Entry) (queues : List (List Waiting)) (next : Next) : Type 0 where
  place : ℕ
  rest : List Waiting
  declared : slice_get entries place ≡ Some next.entry
  at_barrier : IsOpen next.entry store
  waits : queue_at queues place ≡ next.call ∷ rest
  left : next.left ≡ set queues place rest
  least : (other : ℕ) → other < place → ¬ IsReady entries (at_stores store queues) other

abbrev Finds : Store → List Entry → List (List Waiting) → Option Next → Type 0
Finds store entries queues None = (place : ℕ) → ¬ IsReady entries (at_stores store queues) place
Finds store entries queues (Some next) = Found store entries queues next

module _ (store : Store) (entry : Entry) (queue : List Waiting) (entries : List Entry) (queues : List (List Waiting)) where
  ahead : (place : ℕ) → IsReady (entry ∷ entries) (at_stores store (queue ∷ queues)) (suc place) → IsReady entries (at_stores store queues) place
  ahead place ready = record { entry = ready.entry; call = ready.call; rest = ready.rest; declared = ready.declared; at_barrier = ready.at_barrier; waits = ready.waits }

  nowhere : ¬ IsReady (entry ∷ entries) (at_stores store (queue ∷ queues)) 0 → ((place : ℕ) → ¬ IsReady entries (at_stores store queues) place) → (place : ℕ) → ¬ IsReady (entry ∷ entries) (at_stores store (queue ∷ queues)) place
  nowhere here others zero ready = here ready
  nowhere here others (suc place) ready = others place (ahead place ready)

  none_before : (limit : ℕ) → ¬ IsReady (entry ∷ entries) (at_stores store (queue ∷ queues)) 0 → ((place : ℕ) → place < limit → ¬ IsReady entries (at_stores store queues) place)
      → (place : ℕ) → place < suc limit → ¬ IsReady (entry ∷ entries) (at_stores store (queue ∷ queues)) place
  none_before limit here others zero below ready = here ready
  none_before limit here others (suc place) below ready = others place (omega (arith, below)) (ahead place ready)

  found_after : ¬ IsReady (entry ∷ entries) (at_stores store (queue ∷ queues)) 0 → (found : Option Next) → Finds store entries queues found → Finds store (entry ∷ entries) (queue ∷ queues) (with_queue_first queue found)
  found_after here None none = nowhere here none
  found_after here (Some next) f = record {
    place = suc f.place;
    rest = f.rest;
    declared = f.declared;
    at_barrier = f.at_barrier;
    waits = f.waits;
    left = ap (λ (l : List (List Waiting)). queue ∷ l) f.left;
    least = none_before f.place here f.least;
  }

-- the entry of the place 0
first_entry : (store : Store) (entry : Entry) (queue : List Waiting) (entries : List Entry) (queues : List (List Waiting)) → (IsOpen entry store → queue ≡ [] ⊎ ⊥) → ¬ IsReady (entry ∷ entries) (at_stores store (queue ∷ queues)) 0
first_entry store entry queue entries queues closed ready =
    let is : ready.entry ≡ entry = cc in
    elim (closed (subst (λ (e : Entry). IsOpen e store) is ready.at_barrier)) [ inl nobody ↦ absurd (cc) | inr never ↦ never ]

finds : (store : Store) (entries : List Entry) (queues : List (List Waiting)) → Finds store entries queues (next_to_serve store entries queues)
finds store [] queues = λ place ready. let none = ready.declared in absurd (cc)
finds store (entry ∷ entries) [] = λ place ready. let none = ready.waits in absurd (cc)
finds store (entry ∷ entries) ([] ∷ queues) =
    found_after store entry [] entries queues (first_entry store entry [] entries queues (λ up. inl refl)) (next_to_serve store entries queues) (finds store entries queues)
finds store (entry ∷ entries) ((call ∷ rest) ∷ queues) =
    let others = next_to_serve store entries queues in
    let here : Next = record { entry = entry; call = call; left = rest ∷ queues } in
    elim (bool_value store entry.barrier) as (λ b. bool_value store entry.barrier ≡ b → Finds store (entry ∷ entries) ((call ∷ rest) ∷ queues) (cond b (Some here) (with_queue_first (call ∷ rest) others))) [
      | true ↦ λ up. record { place = 0; rest = rest; declared = refl; at_barrier = up; waits = refl; left = refl; least = λ other below ready. absurd (omega (arith, below)) }
      | false ↦ λ shut.
          found_after store entry (call ∷ rest) entries queues (first_entry store entry (call ∷ rest) entries queues (λ up. inr (false≢true (sym shut ∙ up)))) others (finds store entries queues)
    ] refl

-- ---- servicing

abbrev IsServicedFrom : Operations → State → Serviced → Type 0
IsServicedFrom operations before left = Services operations before left.0 left.1

nobody_left : (operations : Operations) (store : Store) (queues : List (List Waiting)) → length (all_calls queues) ≤ 0 → IsServiced operations (at_stores store queues)
nobody_left operations store queues none place ready = omega (arith, none, one_less queues place ready.call ready.rest ready.waits)

module _ (operations : Operations) (most : ℕ) (store : Store) (queues : List (List Waiting)) where
  abbrev Goes : Type 0
  Goes = (s : Store) (q : List (List Waiting)) → length (all_calls q) ≤ most → IsServicedFrom operations (at_stores s q) (serviced_from most operations.entries.items s q)

  next_served : Goes → length (all_calls queues) ≤ suc most → (found : Option Next) → Finds store operations.entries.items queues found
      → IsServicedFrom operations (at_stores store queues) (served (serviced_from most operations.entries.items) store queues found)
  next_served go few None none = ends none
  next_served go few (Some next) f =
      let ran = body_effect next.entry.body.items next.call.arg store in
      let answer : Answer = record { task = next.call.task; number = next.call.number; reply = reply_of ran.1 } in
      let step : Serves operations (at_stores store queues) answer (at_stores ran.0 next.left) = record {
        place = f.place;
        ready = record { entry = next.entry; call = next.call; rest = f.rest; declared = f.declared; at_barrier = f.at_barrier; waits = f.waits };
        least = f.least;
        ended = ran.1;
        run = refl;
        left = f.left;
        replied = refl;
      } in
      let fewer : length (all_calls next.left) ≤ most = omega (arith, few, one_less queues f.place next.call f.rest f.waits, ap (λ (l : List (List Waiting)). length (all_calls l)) f.left) in
      goes_on step (go ran.0 next.left fewer)

services_from : (operations : Operations) (most : ℕ) (store : Store) (queues : List (List Waiting)) → length (all_calls queues) ≤ most
    → IsServicedFrom operations (at_stores store queues) (serviced_from most operations.entries.items store queues)
services_from operations zero store queues few = ends (nobody_left operations store queues few)
services_from operations (suc most) store queues few =
    next_served operations most store queues (services_from operations most) few (next_to_serve store operations.entries.items queues) (finds store operations.entries.items queues)

-- servicing of all calls that wait
pub services_all : (operations : Operations) (before : State) → IsServicedFrom operations before (serviced operations before.store before.queues)
services_all operations before = services_from operations (length (all_calls before.queues)) before.store before.queues (omega arith)

runs_for : (operations : Operations) (body : List Stmt) (arg : ℤ) (before : State)
    → (let ran = body_effect body arg before.store in let left = serviced operations ran.0 before.queues in Runs operations body arg before (Reply (reply_of ran.1)) left.0 left.1)
runs_for operations body arg before =
    let ran = body_effect body arg before.store in
    record { store = ran.0; ended = ran.1; run = refl; replied = refl; serviced = services_all operations (at_stores ran.0 before.queues) }

is_function : (operations : Operations) (before : State) (index : ℕ) (arg : ℤ) (found : Option Function) → of_index operations.functions.items index ≡ found
    → IsActed operations before (calls_function index arg) (function_called found arg before)
is_function operations before index arg None none = no_function none
is_function operations before index arg (Some called) there = function there

is_procedure : (operations : Operations) (before : State) (index : ℕ) (arg : ℤ) (found : Option (Vec Stmt Global)) → of_index operations.procedures.items index ≡ found
    → IsActed operations before (calls_procedure index arg) (procedure_called operations found arg before)
is_procedure operations before index arg None none = no_procedure none
is_procedure operations before index arg (Some body) there = procedure there (runs_for operations body.items arg before)

is_event : (operations : Operations) (before : State) (index : ℕ) (found : Option (Vec Stmt Global)) → of_index operations.procedures.items index ≡ found
    → IsActed operations before (event index) (event_handled operations found before)
is_event operations before index None none = no_handler none
is_event operations before index (Some body) there = handler there (runs_for operations body.items (pos 0) before)

is_after : (operations : Operations) (before : State) (index : ℕ) (call : Waiting) (entry : Entry) → of_index operations.entries.items index ≡ Some entry → ¬ IsOpen entry before.store
    → IsActed operations before (calls_entry index call) (cond (nat_lt (length (queue_at before.queues (index - 1))) entry.longest) (replies_with Waits (with_caller before index call)) (replies_with (Reply ProgramError) before))
is_after operations before index call entry declared shut =
    let waiting = length (queue_at before.queues (index - 1)) in
    let Ends : Bool → Type 0 = λ b. IsActed operations before (calls_entry index call) (cond b (replies_with Waits (with_caller before index call)) (replies_with (Reply ProgramError) before)) in
    ⊎_elim
    (λ (room : waiting < entry.longest). let test : nat_lt waiting entry.longest ≡ true = grind (arith, nat_tests) in subst Ends (sym test) (closed_entry declared shut room))
    (λ (full : entry.longest ≤ waiting). let test : nat_lt waiting entry.longest ≡ false = grind (arith, nat_tests) in subst Ends (sym test) (full_queue declared shut full))
    (cases_lt waiting entry.longest)

is_call : (operations : Operations) (before : State) (index : ℕ) (call : Waiting) (found : Option Entry) → of_index operations.entries.items index ≡ found
    → IsActed operations before (calls_entry index call) (entry_called operations found index call before)
is_call operations before index call None none = no_entry none
is_call operations before index call (Some entry) declared =
    let with_queue_first : Acted = cond (nat_lt (length (queue_at before.queues (index - 1))) entry.longest) (replies_with Waits (with_caller before index call)) (replies_with (Reply ProgramError) before) in
    elim (bool_value before.store entry.barrier) as (λ b. bool_value before.store entry.barrier ≡ b → IsActed operations before (calls_entry index call) (cond b (ran_for (λ outcome. Some outcome) operations entry.body.items call.arg before) with_queue_first)) [
      | true ↦ λ up. open_entry declared up (runs_for operations entry.body.items call.arg before)
      | false ↦ λ closed. is_after operations before index call entry declared (λ up. false≢true (sym closed ∙ up))
    ] refl

pub is_acted : (operations : Operations) (before : State) (request : Request) → IsActed operations before request (acted operations before request)
is_acted operations before (calls_function index arg) = is_function operations before index arg (of_index operations.functions.items index) refl
is_acted operations before (calls_procedure index arg) = is_procedure operations before index arg (of_index operations.procedures.items index) refl
is_acted operations before (calls_entry index call) = is_call operations before index call (of_index operations.entries.items index) refl
is_acted operations before (event index) = is_event operations before index (of_index operations.procedures.items index) refl

pub acts_acted : (operations : Operations) (before : State) (request : Request) (result : Acted) → IsActed operations before request result ↔ (acted operations before request ≡ result)
acts_acted operations before request result = (
  (λ acts.
      let same = acts_one_end (is_acted operations before request) acts in
      λ i. record { caller = same.0 i; replied = same.1 i; after = same.2 i }),
  (λ is. subst (λ (r : Acted). IsActed operations before request r) is (is_acted operations before request)),
)
