-- Protected actions.
use Rattle.std.proofs.Common.{◌≡◌, ℤ, List, Option, Some, None, unwrap_or, Vec, Global, refl, sym, ◌∙◌, ap, subst, arith}
use Rattle.rp_base.specs.declared.reply.Answer.{Answer}
use Rattle.rp_body.specs.declared.components.Limits.{Limits}
use Rattle.rp_body.specs.declared.statement.Stmt.{Stmt}
use Rattle.rp_body.specs.declared.statement.Outcome.{Outcome}
use Rattle.rp_body.specs.Store.{Store, limits_of}
use Rattle.rp_entry.specs.declared.operations.Function.{Function}
use Rattle.rp_entry.specs.declared.operations.Entry.{Entry}
use Rattle.rp_entry.specs.declared.operations.Operations.{Operations}
use Rattle.rp_entry.specs.declared.state.CallOutcome.{CallOutcome}
use Rattle.rp_entry.specs.declared.state.CallOutcome.TheVariants.{Reply}
use Rattle.rp_entry.specs.Operations.{OperationsFit}
use Rattle.rp_entry.specs.Queue.{State, IsOpen, IsServiced}
use Rattle.rp_entry.specs.Replies.{reply_of, function_reply}
use Rattle.rp_entry.specs.Servicing.{Services}
use Rattle.rp_entry.specs.Actions.{Request, Runs, Acts, function, procedure, open_entry, closed_entry, full_queue, handler, no_function, no_procedure, no_entry, no_handler}
use Rattle.rp_entry.specs.Protected.{Protected, IsObject, HasQueues}
use Rattle.rp_entry.proofs.Chains.{is_serviced, right_serviced, one_end}

-- the same body with the same argument
pub runs_same : {operations : Operations} {body other : List Stmt} {arg number : ℤ} {before after : State} {outcome : CallOutcome} {served : List Answer} → body ≡ other → arg ≡ number → Runs operations body arg before outcome served after → Runs operations other number before outcome served after
runs_same {operations} {body} {other} {arg} {number} {before} {after} {outcome} {served} same equal runs =
    subst (λ (b : List Stmt). Runs operations b number before outcome served after) same (subst (λ (a : ℤ). Runs operations body a before outcome served after) equal runs)

-- the same action, in other words
pub acts_same : {operations : Operations} {before after end : State} {request : Request} {caller called : Option CallOutcome} {replied heard : List Answer} → called ≡ caller → heard ≡ replied → end ≡ after → Acts operations before request caller replied after → Acts operations before request called heard end
acts_same {operations} {before} {after} {end} {request} {caller} {called} {replied} {heard} p q r acts =
    subst (λ (c : Option CallOutcome). Acts operations before request c heard end) (sym p)
    (subst (λ (l : List Answer). Acts operations before request caller l end) (sym q) (subst (λ (s : State). Acts operations before request caller replied s) (sym r) acts))

-- the queues are right at other components too
pub same_queues : {operations : Operations} {before : State} (store : Store) → HasQueues operations before → HasQueues operations (record { store = store; queues = before.queues })
same_queues store right = record { short = right.short; tasks = right.tasks; apart = right.apart }

-- what a body and servicing leave is an object
pub is_object_after : {operations : Operations} {body : List Stmt} {arg : ℤ} {before after : State} {outcome : CallOutcome} {served : List Answer} → IsObject operations before → Runs operations body arg before outcome served after → limits_of after.store ≡ limits_of before.store → IsObject operations after
is_object_after {operations} {body} {arg} {before} {after} object runs counts = record {
  fits = subst (λ (l : Limits). OperationsFit l operations) (sym counts) object.fits;
  serviced = is_serviced runs.serviced;
  queues = right_serviced runs.serviced (same_queues runs.store object.queues);
}

-- ---- operations that are shared

-- the same object
pub shared_is : {one other : Operations} {state : State} → one ≡ other → ◌≡◌ {A = Protected} (record { operations = one; state = state }) (record { operations = other; state = state })
shared_is {state = state} same = ap (λ (o : Operations). record { operations = o; state = state }) same

pub shared_runs : {one other : Operations} {body : List Stmt} {arg : ℤ} {before after : State} {outcome : CallOutcome} {served : List Answer} → one ≡ other → Runs one body arg before outcome served after → Runs other body arg before outcome served after
shared_runs {body = body} {arg = arg} {before = before} {after = after} {outcome = outcome} {served = served} same runs =
    subst (λ (o : Operations). Runs o body arg before outcome served after) same runs

pub shared_serviced : {one other : Operations} (state : State) → one ≡ other → IsServiced one state → IsServiced other state
shared_serviced state same serviced = subst (λ (o : Operations). IsServiced o state) same serviced

-- ---- one end

abbrev IsThere : {X : Type 0} → Option X → Type 0
IsThere None = ⊥
IsThere (Some x) = Unit {0}

pub missing : {X : Type 0} {o : Option X} {x : X} → o ≡ Some x → o ≡ None → ⊥
missing there none = subst IsThere (sym there ∙ none) tt

pub one_item : {X : Type 0} {o : Option X} {x y : X} → o ≡ Some x → o ≡ Some y → x ≡ y
one_item {X} {o} {x} here there = ap (λ (p : Option X). unwrap_or p x) (sym here ∙ there)

runs_one_end : {operations : Operations} {body other : List Stmt} {arg : ℤ} {before one end : State} {outcome result : CallOutcome} {replied heard : List Answer} → body ≡ other → Runs operations body arg before outcome replied one → Runs operations other arg before result heard end → (Some outcome ≡ Some result) × (replied ≡ heard) × (one ≡ end)
runs_one_end {operations} {body} {other} {arg} {before} {one} {end} {outcome} {result} {replied} {heard} same s r =
    let t : Runs operations body arg before result heard end = runs_same (sym same) refl r in
    let ran : ◌≡◌ {A = Store × Outcome} (s.store, s.ended) (t.store, t.ended) = sym s.run ∙ t.run in
    let served : Services operations (record { store = s.store; queues = before.queues }) heard end =
    subst (λ (a : Store). Services operations (record { store = a; queues = before.queues }) heard end) (sym (ap (λ p. p.0) ran)) t.serviced in
    let left = one_end s.serviced served in
    let answer : outcome ≡ result = s.replied ∙ ap (λ (o : Outcome). Reply (reply_of o)) (ap (λ p. p.1) ran) ∙ sym t.replied in
    (ap Some answer, left.0, left.1)

pub acts_one_end : {operations : Operations} {before : State} {request : Request} {caller called : Option CallOutcome} {replied heard : List Answer} {one other : State} → Acts operations before request caller replied one → Acts operations before request called heard other → (caller ≡ called) × (replied ≡ heard) × (one ≡ other)
acts_one_end {before = before} (function {arg = arg} f) (function g) = (ap (λ (d : Function). Some (Reply (function_reply d before.store arg))) (one_item f g), refl, refl)
acts_one_end (function f) (no_function g) = absurd (missing f g)
acts_one_end (no_function f) (function g) = absurd (missing g f)
acts_one_end (no_function f) (no_function g) = (refl, refl, refl)
acts_one_end (procedure f s) (procedure g t) = runs_one_end (ap (λ (b : Vec Stmt Global). b.items) (one_item f g)) s t
acts_one_end (procedure f s) (no_procedure g) = absurd (missing f g)
acts_one_end (no_procedure f) (procedure g t) = absurd (missing g f)
acts_one_end (no_procedure f) (no_procedure g) = (refl, refl, refl)
acts_one_end (handler f s) (handler g t) =
    let both = runs_one_end (ap (λ (b : Vec Stmt Global). b.items) (one_item f g)) s t in
    (refl, both.1, both.2)
acts_one_end (handler f s) (no_handler g) = absurd (missing f g)
acts_one_end (no_handler f) (handler g t) = absurd (missing g f)
acts_one_end (no_handler f) (no_handler g) = (refl, refl, refl)
acts_one_end (open_entry f a s) (open_entry g b t) = runs_one_end (ap (λ (e : Entry). e.body.items) (one_item f g)) s t
acts_one_end {before = before} (open_entry f a s) (closed_entry g b room) = absurd (b (subst (λ (e : Entry). IsOpen e before.store) (one_item f g) a))
acts_one_end {before = before} (open_entry f a s) (full_queue g b full) = absurd (b (subst (λ (e : Entry). IsOpen e before.store) (one_item f g) a))
acts_one_end (open_entry f a s) (no_entry g) = absurd (missing f g)
acts_one_end {before = before} (closed_entry f a room) (open_entry g b t) = absurd (a (subst (λ (e : Entry). IsOpen e before.store) (one_item g f) b))
acts_one_end (closed_entry f a room) (closed_entry g b again) = (refl, refl, refl)
acts_one_end (closed_entry f a room) (full_queue g b full) = absurd (omega (arith, room, full, ap (λ (e : Entry). e.longest) (one_item f g)))
acts_one_end (closed_entry f a room) (no_entry g) = absurd (missing f g)
acts_one_end {before = before} (full_queue f a full) (open_entry g b t) = absurd (a (subst (λ (e : Entry). IsOpen e before.store) (one_item g f) b))
acts_one_end (full_queue f a full) (closed_entry g b room) = absurd (omega (arith, room, full, ap (λ (e : Entry). e.longest) (one_item f g)))
acts_one_end (full_queue f a full) (full_queue g b again) = (refl, refl, refl)
acts_one_end (full_queue f a full) (no_entry g) = absurd (missing f g)
acts_one_end (no_entry f) (open_entry g b t) = absurd (missing g f)
acts_one_end (no_entry f) (closed_entry g b room) = absurd (missing g f)
acts_one_end (no_entry f) (full_queue g b full) = absurd (missing g f)
acts_one_end (no_entry f) (no_entry g) = (refl, refl, refl)
