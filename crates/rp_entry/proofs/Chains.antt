-- Servicing as a chain of states.
use Rattle.std.proofs.Common.{◌≡◌, ◌+◌, inl, inr, ℕ, List, [], ◌∷◌, ◌++◌, length, get_or, set, Option, unwrap_or, refl, sym, ◌∙◌, ap, ap₂, subst, arith, append_assoc}
use Rattle.std.proofs.lemmas.Bool.{cases_lt}
use Rattle.std.specs.Prelude.{slice_get}
use Rattle.rp_base.specs.declared.reply.Answer.{Answer}
use Rattle.rp_body.specs.declared.statement.Outcome.{Outcome}
use Rattle.rp_body.specs.Store.{Store}
use Rattle.rp_body.specs.Meaning.{body_effect}
use Rattle.rp_entry.specs.declared.operations.Entry.{Entry}
use Rattle.rp_entry.specs.declared.operations.Operations.{Operations}
use Rattle.rp_entry.specs.declared.state.Waiting.{Waiting}
use Rattle.rp_entry.specs.Queue.{State, IsServiced, queue_at, all_calls}
use Rattle.rp_entry.specs.Protected.{HasQueues}
use Rattle.rp_entry.specs.Replies.{reply_of}
use Rattle.rp_entry.specs.Servicing.{Serves, Services, ends, goes_on}
use Rattle.rp_entry.proofs.Queues.{one_less, right_taken}

-- the list after the first element
abbrev rest_of : {X : Type 0} → List X → List X
rest_of [] = []
rest_of (x ∷ xs) = xs

-- where nothing is to be serviced no call is served
stuck : {operations : Operations} {before after : State} {answer : Answer} → IsServiced operations before → Serves operations before answer after → ⊥
stuck serviced step = serviced step.place step.ready

-- servicing ends in a serviced state
pub is_serviced : {operations : Operations} {before after : State} {replied : List Answer} → Services operations before replied after → IsServiced operations after
is_serviced (ends serviced) = serviced
is_serviced (goes_on step rest) = is_serviced rest

-- one call less waits
pub one_served : {operations : Operations} {before after : State} {answer : Answer} → Serves operations before answer after → length (all_calls before.queues) ≡ length (all_calls after.queues) + 1
one_served {before = before} step =
    let left = ap (λ (l : List (List Waiting)). length (all_calls l)) step.left in
    omega (arith, one_less before.queues step.place step.ready.call step.ready.rest step.ready.waits, left)

-- the queues stay right
pub right_served : {operations : Operations} {before after : State} {answer : Answer} → Serves operations before answer after → HasQueues operations before → HasQueues operations after
right_served {after = after} step right = right_taken step.place step.ready.call step.ready.rest step.ready.waits right after step.left

pub right_serviced : {operations : Operations} {before after : State} {replied : List Answer} → Services operations before replied after → HasQueues operations before → HasQueues operations after
right_serviced (ends serviced) right = right
right_serviced (goes_on step rest) right = right_serviced rest (right_served step right)

-- ---- one end

same_place : {operations : Operations} {before one other : State} {replied heard : Answer} (s : Serves operations before replied one) (t : Serves operations before heard other) → s.place ≡ t.place
same_place s t = elim (cases_lt s.place t.place) [
  | inl below ↦ absurd (t.least s.place below s.ready)
  | inr least ↦ elim (cases_lt t.place s.place) [ inl below ↦ absurd (s.least t.place below t.ready) | inr most ↦ omega (arith, least, most) ]
]

pub same_step : {operations : Operations} {before one other : State} {replied heard : Answer} → Serves operations before replied one → Serves operations before heard other → (replied ≡ heard) × (one ≡ other)
same_step {operations} {before} {one} {other} s t =
    let place : s.place ≡ t.place = same_place s t in
    let found : slice_get operations.entries.items s.place ≡ slice_get operations.entries.items t.place = ap (slice_get operations.entries.items) place in
    let entry : s.ready.entry ≡ t.ready.entry = ap (λ (o : Option Entry). unwrap_or o s.ready.entry) (sym s.ready.declared ∙ found ∙ t.ready.declared) in
    let queue : s.ready.call ∷ s.ready.rest ≡ t.ready.call ∷ t.ready.rest = sym s.ready.waits ∙ ap (queue_at before.queues) place ∙ t.ready.waits in
    let call : s.ready.call ≡ t.ready.call = ap (λ (q : List Waiting). get_or q 0 s.ready.call) queue in
    let rest : s.ready.rest ≡ t.ready.rest = ap rest_of queue in
    let ran : ◌≡◌ {A = Store × Outcome} (one.store, s.ended) (other.store, t.ended) =
    sym s.run ∙ ap₂ (λ (e : Entry) (c : Waiting). body_effect e.body.items c.arg before.store) entry call ∙ t.run in
    let queues : one.queues ≡ other.queues = s.left ∙ ap₂ (λ (n : ℕ) (q : List Waiting). set before.queues n q) place rest ∙ sym t.left in
    let left : ◌≡◌ {A = State} one other = ap₂ (λ (a : Store) (q : List (List Waiting)). record { store = a; queues = q }) (ap (λ p. p.0) ran) queues in
    let answer = s.replied ∙ ap₂ (λ (c : Waiting) (o : Outcome). record { task = c.task; number = c.number; reply = reply_of o }) call (ap (λ p. p.1) ran) ∙ sym t.replied in
    (answer, left)

pub one_end : {operations : Operations} {before one other : State} {replied heard : List Answer} → Services operations before replied one → Services operations before heard other → (replied ≡ heard) × (one ≡ other)
one_end (ends serviced) (ends again) = (refl, refl)
one_end (ends serviced) (goes_on step rest) = absurd (stuck serviced step)
one_end (goes_on step rest) (ends serviced) = absurd (stuck serviced step)
one_end {operations} {before} {one} {other} (goes_on step rest) (goes_on {answers = heard} step' rest') =
    let same = same_step step step' in
    let later = one_end rest (subst (λ (s : State). Services operations s heard other) (sym same.1) rest') in
    (ap₂ (λ (a : Answer) (l : List Answer). a ∷ l) same.0 later.0, later.1)

-- ---- the answers so far

-- servicing from this state leads, with these answers, to that state, and goes on from it
abbrev pub Reaches : Operations → State → List Answer → State → Type 0
Reaches operations before replied between = (after : State) (more : List Answer) → Services operations between more after → Services operations before (replied ++ more) after

pub reaches_more : (operations : Operations) (before between after : State) (replied : List Answer) (answer : Answer) → Reaches operations before replied between → Serves operations between answer after → Reaches operations before (replied ++ answer ∷ []) after
reaches_more operations before between after replied answer reached step end more rest =
    subst (λ (l : List Answer). Services operations before l end) (sym (append_assoc replied (answer ∷ []) more)) (reached end (answer ∷ more) (goes_on step rest))
