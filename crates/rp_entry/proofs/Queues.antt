-- The calls that wait in the queues of an object.
use Rattle.std.proofs.Common.{◌≡◌, ◌≤◌, ◌<◌, ◌-◌, ◌+◌, ℕ, zero, suc, List, [], ◌∷◌, ◌++◌, length, map, set, Some, inl, inr, refl, sym, ◌∙◌, ap, subst, arith, append_assoc, length-append}
use Rattle.std.proofs.lemmas.Bool.{cases_eq}
use Rattle.std.proofs.lemmas.List.{length-map}
use Rattle.std.proofs.lemmas.Option.{slice_get_within}
use Rattle.std.specs.Prelude.{slice_get}
use Rattle.std.specs.List.{AllZip}
use Rattle.rp_base.specs.Number.{IsTask}
use Rattle.rp_base.specs.Sets.{Has, IsSet}
use Rattle.rp_base.proofs.Members.{set_fits}
use Rattle.rp_entry.specs.declared.operations.Entry.{Entry}
use Rattle.rp_entry.specs.declared.operations.Operations.{Operations}
use Rattle.rp_entry.specs.declared.state.Waiting.{Waiting}
use Rattle.rp_entry.specs.Operations.{of_index}
use Rattle.rp_entry.specs.Queue.{State, queue_at, all_calls, tasks_waiting}
use Rattle.rp_entry.specs.Protected.{IsShort, HasQueues}
use Rattle.rp_entry.specs.Actions.{with_caller}
use Rattle.rp_entry.proofs.Permuting.{Perm, chain, permuted, back, in_front, one_first, length_permuted, mapped_permuted, has_permuted, set_permuted}

-- the first call of a queue is taken off it
pub taken : (queues : List (List Waiting)) (place : ℕ) (call : Waiting) (rest : List Waiting) → queue_at queues place ≡ call ∷ rest → Perm (all_calls queues) (call ∷ all_calls (set queues place rest))
taken [] place call rest there = absurd (cc)
taken (queue ∷ queues) zero call rest there = permuted (ap (λ (q : List Waiting). q ++ all_calls queues) there)
taken (queue ∷ queues) (suc place) call rest there =
    chain (in_front queue (taken queues place call rest there)) (one_first queue call (all_calls (set queues place rest)))

-- a call joins a queue
pub joined : (queues : List (List Waiting)) (place : ℕ) (call : Waiting) → place < length queues → Perm (call ∷ all_calls queues) (all_calls (set queues place (queue_at queues place ++ call ∷ [])))
joined [] place call below = absurd (omega (arith, below))
joined (queue ∷ queues) zero call below =
    chain (back (one_first queue call (all_calls queues))) (permuted (sym (append_assoc queue (call ∷ []) (all_calls queues))))
joined (queue ∷ queues) (suc place) call below =
    chain (back (one_first queue call (all_calls queues))) (in_front queue (joined queues place call (omega (arith, below))))

-- one call less waits
pub one_less : (queues : List (List Waiting)) (place : ℕ) (call : Waiting) (rest : List Waiting) → queue_at queues place ≡ call ∷ rest → length (all_calls queues) ≡ length (all_calls (set queues place rest)) + 1
one_less queues place call rest there = omega (arith, length_permuted (taken queues place call rest there))

-- where a call waits there is a queue
pub place_there : (queues : List (List Waiting)) (place : ℕ) (call : Waiting) (rest : List Waiting) → queue_at queues place ≡ call ∷ rest → place < length queues
place_there [] place call rest there = absurd (cc)
place_there (queue ∷ queues) zero call rest there = omega arith
place_there (queue ∷ queues) (suc place) call rest there = omega (arith, place_there queues place call rest there)

-- ---- no queue is too long

pub as_many : (entries : List Entry) (queues : List (List Waiting)) → AllZip IsShort entries queues → length queues ≡ length entries
as_many [] [] each = refl
as_many [] (queue ∷ queues) each = absurd each
as_many (entry ∷ entries) [] each = absurd each
as_many (entry ∷ entries) (queue ∷ queues) each = ap suc (as_many entries queues each.1)

pub short_taken : (entries : List Entry) (queues : List (List Waiting)) (place : ℕ) (call : Waiting) (rest : List Waiting) → AllZip IsShort entries queues → queue_at queues place ≡ call ∷ rest → AllZip IsShort entries (set queues place rest)
short_taken [] [] place call rest each there = absurd (cc)
short_taken [] (queue ∷ queues) place call rest each there = absurd each
short_taken (entry ∷ entries) [] place call rest each there = absurd each
short_taken (entry ∷ entries) (queue ∷ queues) zero call rest each there = (omega (arith, each.0, ap length there), each.1)
short_taken (entry ∷ entries) (queue ∷ queues) (suc place) call rest each there = (each.0, short_taken entries queues place call rest each.1 there)

short_joined : (entries : List Entry) (queues : List (List Waiting)) (place : ℕ) (entry : Entry) (new : List Waiting) → AllZip IsShort entries queues → slice_get entries place ≡ Some entry → length new ≤ entry.longest → AllZip IsShort entries (set queues place new)
short_joined [] [] place entry new each there short = absurd (cc)
short_joined [] (queue ∷ queues) place entry new each there short = absurd each
short_joined (own ∷ entries) [] place entry new each there short = absurd each
short_joined (own ∷ entries) (queue ∷ queues) zero entry new each there short =
    let is : own ≡ entry = cc in
    (subst (λ (e : Entry). length new ≤ e.longest) (sym is) short, each.1)
short_joined (own ∷ entries) (queue ∷ queues) (suc place) entry new each there short = (each.0, short_joined entries queues place entry new each.1 there short)

-- a call joins the queue of the entry of an index, where there is room
pub short_grown : (entries : List Entry) (queues : List (List Waiting)) (index : ℕ) (call : Waiting) (entry : Entry) → AllZip IsShort entries queues → of_index entries index ≡ Some entry → length (queue_at queues (index - 1)) < entry.longest
    → AllZip IsShort entries (set queues (index - 1) (queue_at queues (index - 1) ++ call ∷ []))
short_grown entries queues zero call entry short there room = absurd (cc)
short_grown entries queues (suc place) call entry short there room =
    let same_place : suc place - 1 ≡ place = omega arith in
    let at : slice_get entries (suc place - 1) ≡ Some entry = ap (slice_get entries) same_place ∙ there in
    short_joined entries queues (suc place - 1) entry (queue_at queues (suc place - 1) ++ call ∷ []) short at (omega (arith, room, length-append (queue_at queues (suc place - 1)) (call ∷ [])))

-- ---- the tasks that wait

-- an index that names one is from 1 up to the count
pub index_there : {X : Type 0} (xs : List X) (index : ℕ) (x : X) → of_index xs index ≡ Some x → (1 ≤ index) × (index ≤ length xs)
index_there xs zero x there = absurd (cc)
index_there xs (suc place) x there = let below : place < length xs = slice_get_within xs place x there in (omega arith, omega (arith, below))

abbrev task_of : Waiting → ℕ
task_of call = call.task

pub tasks_taken : (queues : List (List Waiting)) (place : ℕ) (call : Waiting) (rest : List Waiting) → queue_at queues place ≡ call ∷ rest → Perm (map task_of (all_calls queues)) (call.task ∷ map task_of (all_calls (set queues place rest)))
tasks_taken queues place call rest there = mapped_permuted task_of (taken queues place call rest there)

-- what is left is right once a call is taken off
pub right_taken : {operations : Operations} {before : State} (place : ℕ) (call : Waiting) (rest : List Waiting) → queue_at before.queues place ≡ call ∷ rest → HasQueues operations before → (after : State) → after.queues ≡ set before.queues place rest → HasQueues operations after
right_taken {operations} {before} place call rest there right after left =
    let perm = tasks_taken before.queues place call rest there in
    let tasks : tasks_waiting after ≡ map task_of (all_calls (set before.queues place rest)) = ap (λ (l : List (List Waiting)). map task_of (all_calls l)) left in
    record {
      short = subst (λ (l : List (List Waiting)). AllZip IsShort operations.entries.items l) (sym left) (short_taken operations.entries.items before.queues place call rest right.short there);
      tasks = λ task has. right.tasks task (has_permuted task (back perm) (inr (subst (λ (l : List ℕ). Has task l) tasks has)));
      apart = subst (λ (l : List ℕ). IsSet l) (sym tasks) (set_permuted perm right.apart).1;
    }

-- and once a call of another task joins
pub right_joined : {operations : Operations} {before : State} (index : ℕ) (call : Waiting) (entry : Entry) → of_index operations.entries.items index ≡ Some entry → length (queue_at before.queues (index - 1)) < entry.longest
    → IsTask call.task → ¬ Has call.task (tasks_waiting before) → HasQueues operations before → HasQueues operations (with_caller before index call)
right_joined {operations} {before} index call entry there room task free right =
    let within = index_there operations.entries.items index entry there in
    let below : index - 1 < length before.queues = omega (arith, within.0, within.1, as_many operations.entries.items before.queues right.short) in
    let perm = mapped_permuted task_of (joined before.queues (index - 1) call below) in
    let set_of : IsSet (call.task ∷ tasks_waiting before) = (free, right.apart) in
    let inside : (t : ℕ) → Has t (call.task ∷ tasks_waiting before) → IsTask t = λ t has. elim has [ inl is ↦ subst IsTask (sym is) task | inr was ↦ right.tasks t was ] in
    record {
      short = short_grown operations.entries.items before.queues index call entry right.short there room;
      tasks = λ t has. inside t (has_permuted t (back perm) has);
      apart = set_permuted perm set_of;
    }

-- ---- no more wait than there are tasks

abbrev up_to : ℕ → List ℕ
up_to zero = []
up_to (suc n) = suc n ∷ up_to n

length-up_to : (n : ℕ) → length (up_to n) ≡ n
length-up_to zero = refl
length-up_to (suc n) = ap suc (length-up_to n)

has_up_to : (n x : ℕ) → 1 ≤ x → x ≤ n → Has x (up_to n)
has_up_to zero x low high = absurd (omega (arith, low, high))
has_up_to (suc n) x low high = elim (cases_eq x (suc n)) [ inl is ↦ inl is | inr other ↦ inr (has_up_to n x low (omega (arith, high, other))) ]

-- distinct tasks are no more than 8
pub few_tasks : (tasks : List ℕ) → IsSet tasks → ((task : ℕ) → Has task tasks → IsTask task) → length tasks ≤ 8
few_tasks tasks apart each =
    let fits = set_fits tasks (up_to 8) apart (λ task has. has_up_to 8 task (each task has).0 (each task has).1) in
    omega (arith, fits, length-up_to 8)

pub few_wait : {operations : Operations} {state : State} → HasQueues operations state → length (all_calls state.queues) ≤ 8
few_wait {state = state} right = omega (arith, few_tasks (tasks_waiting state) right.apart right.tasks, length-map (all_calls state.queues) task_of)
