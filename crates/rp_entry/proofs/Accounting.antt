-- By the cases of the action, and along the chain of servicing.
use Rattle.std.proofs.Common.{◌≡◌, ◌≢◌, ◌<◌, ◌-◌, ℕ, suc, Bool, true, false, cond, List, [], ◌∷◌, ◌++◌, length, map, set, Option, Some, refl, sym, ◌∙◌, ap, ap₂, subst, arith, append-nil}
use Rattle.std.specs.Prelude.{nat_eq}
use Rattle.std.proofs.lemmas.Bool.{cases_eq}
use Rattle.std.proofs.lemmas.Bool.Decides.{nat_tests}
use Rattle.std.proofs.Math.Logic.{⊎_elim}
use Rattle.std.proofs.lemmas.List.{get_or-set_same, get_or-set_other}
use Rattle.rp_base.specs.declared.reply.Answer.{Answer}
use Rattle.rp_body.specs.declared.statement.Stmt.{Stmt}
use Rattle.rp_entry.specs.declared.operations.Operations.{Operations}
use Rattle.rp_entry.specs.declared.state.CallOutcome.{CallOutcome}
use Rattle.rp_entry.specs.declared.state.Waiting.{Waiting}
use Rattle.rp_entry.specs.Queue.{State, queue_at, all_calls}
use Rattle.rp_entry.specs.Servicing.{Services, ends, goes_on}
use Rattle.rp_entry.specs.Actions.{Request, Runs, Acts, calls_entry, function, procedure, open_entry, closed_entry, full_queue, handler, no_function, no_procedure, no_entry, no_handler, with_caller}
use Rattle.rp_entry.specs.Accounting.{waiting_key, answered_caller, KeepsCallers, joins, joins_at, replied_at, KeepsAll}
use Rattle.rp_entry.proofs.Permuting.{Perm, same, following, chain, permuted, mapped_permuted}
use Rattle.rp_entry.proofs.Queues.{taken, joined, place_there, index_there}

-- ---- all calls of an object together

-- those that wait, and those that are answered and that wait still
abbrev Leaves : List (ℕ × ℕ) → List Answer → List (List Waiting) → Type 0
Leaves waited replied waiting = Perm waited (map answered_caller replied ++ map waiting_key (all_calls waiting))

services_leave : {operations : Operations} {before after : State} {replied : List Answer} → Services operations before replied after → Leaves (map waiting_key (all_calls before.queues)) replied after.queues
services_leave (ends serviced) = same
services_leave (goes_on {before = before} {between = between} {answers = answers} step rest) =
    let call = step.ready.call in
    let left : map waiting_key (all_calls (set before.queues step.place step.ready.rest)) ≡ map waiting_key (all_calls between.queues) = ap (λ (l : List (List Waiting)). map waiting_key (all_calls l)) (sym step.left) in
    chain (mapped_permuted waiting_key (taken before.queues step.place call step.ready.rest step.ready.waits))
    (chain (permuted (ap₂ (λ (n : ℕ × ℕ) (l : List (ℕ × ℕ)). n ∷ l) (sym (ap answered_caller step.replied)) left)) (following (services_leave rest)))

answered_joins : {operations : Operations} {body : List Stmt} {before after : State} {outcome : CallOutcome} {replied : List Answer} (index : ℕ) (call : Waiting) (arg : _) → Runs operations body arg before outcome replied after → joins (calls_entry index call) (Some outcome) ≡ []
answered_joins index call arg runs = ap (λ (o : CallOutcome). joins (calls_entry index call) (Some o)) runs.replied

-- of an object that has its queues: its calls and the one that joins them are those that are answered and those that wait after
pub acts_leave : {operations : Operations} {before after : State} {request : Request} {caller : Option CallOutcome} {replied : List Answer}
    → length before.queues ≡ length operations.entries.items → Acts operations before request caller replied after
    → Leaves (map waiting_key (joins request caller ++ all_calls before.queues)) replied after.queues
acts_leave each (function f) = same
acts_leave each (procedure f runs) = services_leave runs.serviced
acts_leave {before = before} {after = after} {replied = replied} each (open_entry {index = index} {call = call} f a runs) =
    subst (λ (q : List Waiting). Leaves (map waiting_key (q ++ all_calls before.queues)) replied after.queues) (sym (answered_joins index call _ runs)) (services_leave runs.serviced)
acts_leave {operations = operations} {before = before} each (closed_entry {index = index} {call = call} {entry = entry} f a room) =
    let within = index_there operations.entries.items index entry f in
    let below : index - 1 < length before.queues = omega (arith, within.0, within.1, each) in
    mapped_permuted waiting_key (joined before.queues (index - 1) call below)
acts_leave each (full_queue f a full) = same
acts_leave each (handler f runs) = services_leave runs.serviced
acts_leave each (no_function f) = same
acts_leave each (no_procedure f) = same
acts_leave each (no_entry f) = same
acts_leave each (no_handler f) = same

-- ---- each entry by itself

-- servicing, with the entry of each answer's caller
record Serviced (before : List (List Waiting)) (replied : List Answer) (after : List (List Waiting)) : Type 0 where
  entries : List ℕ
  each : length entries ≡ length replied
  kept : (place : ℕ) → KeepsCallers (queue_at before place) (replied_at place entries replied) (queue_at after place)

module _ (before between after : List (List Waiting)) (at : ℕ) (call : Waiting) (rest : List Waiting) (answer : Answer) (replied : List Answer) (entries : List ℕ) where
  kept_more : queue_at before at ≡ call ∷ rest → between ≡ set before at rest → answered_caller answer ≡ waiting_key call
      → ((place : ℕ) → KeepsCallers (queue_at between place) (replied_at place entries replied) (queue_at after place))
      → (place : ℕ) → KeepsCallers (queue_at before place) (replied_at place (at ∷ entries) (answer ∷ replied)) (queue_at after place)
  kept_more waits left name later place =
      let Kept : Bool → Type 0 = λ b. KeepsCallers (queue_at before place) (cond b (answer ∷ replied_at place entries replied) (replied_at place entries replied)) (queue_at after place) in
      ⊎_elim
      (λ (is : at ≡ place).
      let test : nat_eq at place ≡ true = grind (arith, nat_tests) in
      let here : queue_at between place ≡ rest = ap (λ (l : List (List Waiting)). queue_at l place) left ∙ ap (queue_at (set before at rest)) (sym is) ∙ get_or-set_same before at rest [] (place_there before at call rest waits) in
      let was : queue_at before place ≡ call ∷ rest = ap (queue_at before) (sym is) ∙ waits in
      let others : map answered_caller (replied_at place entries replied) ++ map waiting_key (queue_at after place) ≡ map waiting_key rest = later place ∙ ap (λ (q : List Waiting). map waiting_key q) here in
      let all : Kept true = ap₂ (λ (n : ℕ × ℕ) (l : List (ℕ × ℕ)). n ∷ l) name others ∙ ap (λ (q : List Waiting). map waiting_key q) (sym was) in
      subst Kept (sym test) all)
      (λ (other : at ≢ place).
      let test : nat_eq at place ≡ false = grind (arith, nat_tests) in
      let apart : place ≢ at = λ e. other (sym e) in
      let here : queue_at between place ≡ queue_at before place = ap (λ (l : List (List Waiting)). queue_at l place) left ∙ get_or-set_other before at place rest [] apart in
      let all : Kept false = later place ∙ ap (λ (q : List Waiting). map waiting_key q) here in
      subst Kept (sym test) all)
      (cases_eq at place)

served_accounts : {operations : Operations} {before after : State} {replied : List Answer} → Services operations before replied after → Serviced before.queues replied after.queues
served_accounts (ends serviced) = record { entries = []; each = refl; kept = λ place. refl }
served_accounts (goes_on {before = before} {between = between} {after = after} {answer = answer} {answers = answers} step rest) =
    let later = served_accounts rest in
    record {
      entries = step.place ∷ later.entries;
      each = ap suc later.each;
      kept = kept_more before.queues between.queues after.queues step.place step.ready.call step.ready.rest answer answers later.entries step.ready.waits step.left (ap answered_caller step.replied) later.kept;
    }

-- where the action's own call does not wait
alone : {before after : State} {request : Request} {caller : Option CallOutcome} {replied : List Answer} → ((place : ℕ) → joins_at place request caller ≡ []) → Serviced before.queues replied after.queues → KeepsAll before request caller replied after
alone {before} {after} {replied = replied} none left = record {
  entries = left.entries;
  each = left.each;
  kept = λ place.
      subst (λ (q : List Waiting). KeepsCallers (queue_at before.queues place ++ q) (replied_at place left.entries replied) (queue_at after.queues place)) (sym (none place))
      (subst (λ (q : List Waiting). KeepsCallers q (replied_at place left.entries replied) (queue_at after.queues place)) (sym (append-nil (queue_at before.queues place))) (left.kept place));
}

unchanged : (queues : List (List Waiting)) → Serviced queues [] queues
unchanged queues = record { entries = []; each = refl; kept = λ place. refl }

-- an entry call that does not wait joins no queue
over_at : (index : ℕ) (call : Waiting) (caller : Option CallOutcome) → joins (calls_entry index call) caller ≡ [] → (place : ℕ) → joins_at place (calls_entry index call) caller ≡ []
over_at index call caller none place = elim (nat_eq (index - 1) place) as (λ b. cond b (joins (calls_entry index call) caller) [] ≡ []) [ true ↦ none | false ↦ refl ]

module _ (before : State) (index : ℕ) (call : Waiting) (below : index - 1 < length before.queues) where
  joined_at : (place : ℕ) → queue_at (with_caller before index call).queues place ≡ queue_at before.queues place ++ cond (nat_eq (index - 1) place) (call ∷ []) []
  joined_at place =
      let at = index - 1 in
      let new = queue_at before.queues at ++ call ∷ [] in
      ⊎_elim
      (λ (is : at ≡ place).
      let test : nat_eq at place ≡ true = grind (arith, nat_tests) in
      let joined : queue_at (set before.queues at new) place ≡ queue_at before.queues place ++ call ∷ [] = ap (queue_at (set before.queues at new)) (sym is) ∙ get_or-set_same before.queues at new [] below ∙ ap (λ n. queue_at before.queues n ++ call ∷ []) is in
      subst (λ b. queue_at (set before.queues at new) place ≡ queue_at before.queues place ++ cond b (call ∷ []) []) (sym test) joined)
      (λ (other : at ≢ place).
      let test : nat_eq at place ≡ false = grind (arith, nat_tests) in
      let apart : place ≢ at = λ e. other (sym e) in
      let stays : queue_at (set before.queues at new) place ≡ queue_at before.queues place ++ [] = get_or-set_other before.queues at place new [] apart ∙ sym (append-nil (queue_at before.queues place)) in
      subst (λ b. queue_at (set before.queues at new) place ≡ queue_at before.queues place ++ cond b (call ∷ []) []) (sym test) stays)
      (cases_eq at place)

pub acts_account : {operations : Operations} {before after : State} {request : Request} {caller : Option CallOutcome} {replied : List Answer}
    → length before.queues ≡ length operations.entries.items → Acts operations before request caller replied after → KeepsAll before request caller replied after
acts_account {before = before} each (function f) = alone (λ place. refl) (unchanged before.queues)
acts_account each (procedure f runs) = alone (λ place. refl) (served_accounts runs.serviced)
acts_account each (open_entry {index = index} {call = call} {outcome = outcome} f a runs) = alone (over_at index call (Some outcome) (answered_joins index call _ runs)) (served_accounts runs.serviced)
acts_account {operations = operations} {before = before} each (closed_entry {index = index} {call = call} {entry = entry} f a room) =
    let within = index_there operations.entries.items index entry f in
    let below : index - 1 < length before.queues = omega (arith, within.0, within.1, each) in
    record { entries = []; each = refl; kept = λ place. ap (λ (q : List Waiting). map waiting_key q) (joined_at before index call below place) }
acts_account {before = before} {caller = caller} each (full_queue {index = index} {call = call} f a full) = alone (over_at index call caller refl) (unchanged before.queues)
acts_account each (handler f runs) = alone (λ place. refl) (served_accounts runs.serviced)
acts_account {before = before} each (no_function f) = alone (λ place. refl) (unchanged before.queues)
acts_account {before = before} each (no_procedure f) = alone (λ place. refl) (unchanged before.queues)
acts_account {before = before} {caller = caller} each (no_entry {index = index} {call = call} f) = alone (over_at index call caller refl) (unchanged before.queues)
acts_account {before = before} each (no_handler f) = alone (λ place. refl) (unchanged before.queues)
