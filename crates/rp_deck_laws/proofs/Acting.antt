-- What the actions of one object do, by what its operations mean.
use Rattle.std.proofs.Common.{◌≡◌, ℕ, zero, suc, ◌-◌, ℤ, pos, Bool, true, false, cond, Option, Some, None, List, [], ◌∷◌, map, length, refl, sym, ap, ◌∙◌}
use Rattle.std.specs.Prelude.{option_map, nat_lt, Vec, if◌then◌else◌}
use Rattle.std.specs.declared.alloc.Global.{Global}
use Rattle.std.proofs.lemmas.Option.{slice_get-map}
use Rattle.rp_deck.specs.rp_base.specs.declared.reply.Reply.{Reply}
use Rattle.rp_deck.specs.rp_base.specs.declared.reply.Reply.TheVariants.{Value, Truth, ConstraintError, ProgramError, NoSuchOperation}
use Rattle.rp_object.specs.rp_body.specs.declared.statement.Stmt.{Stmt}
use Rattle.rp_object.specs.rp_body.specs.declared.statement.Outcome.{Outcome}
use Rattle.rp_object.specs.rp_body.specs.Store.{Store, bool_value}
use Rattle.rp_object.specs.rp_body.specs.Expressions.{fits_64}
use Rattle.rp_object.specs.rp_entry.specs.declared.operations.Function.{Function}
use Rattle.rp_object.specs.rp_entry.specs.declared.operations.Function.TheVariants as functions
use Rattle.rp_object.specs.rp_entry.specs.declared.operations.Entry.{Entry}
use Rattle.rp_object.specs.rp_entry.specs.declared.operations.Operations.{Operations}
use Rattle.rp_object.specs.rp_entry.specs.declared.state.Waiting.{Waiting}
use Rattle.rp_object.specs.rp_entry.specs.declared.state.CallOutcome.{CallOutcome}
use Rattle.rp_object.specs.rp_entry.specs.declared.state.CallOutcome.TheVariants.{Reply as Replies, Waits}
use Rattle.rp_object.specs.rp_entry.specs.Operations.{of_index}
use Rattle.rp_object.specs.rp_entry.specs.Queue.{State, queue_at, all_calls}
use Rattle.rp_object.specs.rp_entry.specs.Replies.{reply_of, function_reply}
use Rattle.rp_object.specs.rp_entry.specs.Actions.{Request, calls_function, calls_procedure, calls_entry, event, with_caller}
use Rattle.rp_object.specs.rp_entry.specs.Results.{Acted, Next, Serviced, replies_with, with_queue_first, next_to_serve, served, serviced_from, serviced, ran_for, function_called, procedure_called, entry_called, event_handled, acted}
use Rattle.rp_deck_bodies.specs.Bodies.{BodyText}
use Rattle.rp_deck_bodies.specs.BodyViews.{body_text}
use Rattle.rp_deck.specs.rp_deck_objects.specs.Objects.{FunctionText, EntryText}
use Rattle.rp_deck.specs.rp_deck_objects.specs.Objects as texts
use Rattle.rp_deck.specs.rp_deck_objects.specs.ObjectViews.{function_text, entry_text}
use Rattle.rp_deck_laws.proofs.Bodies.{value_as, value_is, truth_as, truth_is, effect_as, body_is}

abbrev pub procedure_text : Vec Stmt Global → BodyText
procedure_text body = body_text body.items

-- what the operations of an object mean
pub record Meant : Type 0 where
  pub functions : List FunctionText
  pub procedures : List BodyText
  pub entries : List EntryText

abbrev pub meant : Operations → Meant
meant operations = record { functions = map function_text operations.functions.items; procedures = map procedure_text operations.procedures.items; entries = map entry_text operations.entries.items }

pub of_map : {X Y : Type 0} (f : X → Y) (xs : List X) (n : ℕ) → of_index (map f xs) n ≡ option_map f (of_index xs n)
of_map f xs zero = refl
of_map f xs (suc n) = slice_get-map f xs n

-- ---- the next call

-- a call to be served, by what its entry means
pub record NextAs : Type 0 where
  pub entry : EntryText
  pub call : Waiting
  pub left : List (List Waiting)

abbrev next_text : Next → NextAs
next_text next = record { entry = entry_text next.entry; call = next.call; left = next.left }

abbrev with_queue : List Waiting → Option NextAs → Option NextAs
with_queue queue None = None
with_queue queue (Some next) = Some (record { entry = next.entry; call = next.call; left = queue ∷ next.left })

abbrev next_as : Store → List EntryText → List (List Waiting) → Option NextAs
next_as store [] queues = None
next_as store (entry ∷ entries) [] = None
next_as store (entry ∷ entries) ([] ∷ queues) = with_queue [] (next_as store entries queues)
next_as store (entry ∷ entries) ((call ∷ rest) ∷ queues) =
    if bool_value store entry.barrier
    then Some (record { entry = entry; call = call; left = rest ∷ queues })
    else with_queue (call ∷ rest) (next_as store entries queues)

queue_first : (queue : List Waiting) (next : Option Next) → option_map next_text (with_queue_first queue next) ≡ with_queue queue (option_map next_text next)
queue_first queue None = refl
queue_first queue (Some next) = refl

or_first : (b : Bool) (one : Next) (other : Option Next) → option_map next_text (cond {A = Option Next} b (Some one) other) ≡ cond {A = Option NextAs} b (Some (next_text one)) (option_map next_text other)
or_first true one other = refl
or_first false one other = refl

next_is : (store : Store) (entries : List Entry) (queues : List (List Waiting)) → option_map next_text (next_to_serve store entries queues) ≡ next_as store (map entry_text entries) queues
next_is store [] queues = refl
next_is store (entry ∷ entries) [] = refl
next_is store (entry ∷ entries) ([] ∷ queues) = queue_first [] (next_to_serve store entries queues) ∙ ap (with_queue []) (next_is store entries queues)
next_is store (entry ∷ entries) ((call ∷ rest) ∷ queues) =
    let first : Next = record { entry = entry; call = call; left = rest ∷ queues } in
    or_first (bool_value store entry.barrier) first (with_queue_first (call ∷ rest) (next_to_serve store entries queues))
    ∙ ap (λ (o : Option NextAs). cond {A = Option NextAs} (bool_value store entry.barrier) (Some (next_text first)) o) (queue_first (call ∷ rest) (next_to_serve store entries queues) ∙ ap (with_queue (call ∷ rest)) (next_is store entries queues))

-- ---- servicing

abbrev serve_as : (Store → List (List Waiting) → Serviced) → Store → List (List Waiting) → Option NextAs → Serviced
serve_as later store queues None = ([], record { store = store; queues = queues })
serve_as later store queues (Some next) =
    let ran = effect_as next.call.arg next.entry.body store (pos 0) in
    let others = later ran.0 next.left in
    (record { task = next.call.task; number = next.call.number; reply = reply_of ran.1 } ∷ others.0, others.1)

serviced_as : ℕ → List EntryText → Store → List (List Waiting) → Serviced
serviced_as zero entries store queues = ([], record { store = store; queues = queues })
serviced_as (suc most) entries store queues = serve_as (serviced_as most entries) store queues (next_as store entries queues)

serve_is : (one other : Store → List (List Waiting) → Serviced) → ((store : Store) (queues : List (List Waiting)) → one store queues ≡ other store queues) → (store : Store) (queues : List (List Waiting)) (next : Option Next)
    → served one store queues next ≡ serve_as other store queues (option_map next_text next)
serve_is one other same store queues None = refl
serve_is one other same store queues (Some next) =
    let ran = body_is next.entry.body.items next.call.arg store in
    let end : Store × Outcome → Serviced = λ r. (let others = one r.0 next.left in (record { task = next.call.task; number = next.call.number; reply = reply_of r.1 } ∷ others.0, others.1)) in
    let after = effect_as next.call.arg (body_text next.entry.body.items) store (pos 0) in
    ap end ran ∙ ap (λ (o : Serviced). (record { task = next.call.task; number = next.call.number; reply = reply_of after.1 } ∷ o.0, o.1)) (same after.0 next.left)

serviced_is : (most : ℕ) (entries : List Entry) (store : Store) (queues : List (List Waiting)) → serviced_from most entries store queues ≡ serviced_as most (map entry_text entries) store queues
unfolding serviced_as
serviced_is zero entries store queues = refl
serviced_is (suc most) entries store queues =
    serve_is (serviced_from most entries) (serviced_as most (map entry_text entries)) (serviced_is most entries) store queues (next_to_serve store entries queues)
    ∙ ap (serve_as (serviced_as most (map entry_text entries)) store queues) (next_is store entries queues)

-- ---- requests

reply_as : FunctionText → Store → ℤ → Reply
reply_as (texts.FunctionText.Value expr) store arg = let value = value_as expr store arg (pos 0) in if fits_64 value then Value value else ConstraintError
reply_as (texts.FunctionText.Truth test) store arg = Truth (truth_as test store arg (pos 0))

reply_is : (called : Function) (store : Store) (arg : ℤ) → function_reply called store arg ≡ reply_as (function_text called) store arg
unfolding reply_as
reply_is (functions.Value expr) store arg = ap (λ (value : ℤ). (let r : Reply = if fits_64 value then Value value else ConstraintError in r)) (value_is expr store arg (pos 0))
reply_is (functions.Truth test) store arg = ap (λ (b : Bool). Truth b) (truth_is test store arg (pos 0))

function_as : Option FunctionText → ℤ → State → Acted
function_as None arg before = replies_with (Replies NoSuchOperation) before
function_as (Some called) arg before = replies_with (Replies (reply_as called before.store arg)) before

function_is : (called : Option Function) (arg : ℤ) (before : State) → function_called called arg before ≡ function_as (option_map function_text called) arg before
unfolding function_as
function_is None arg before = refl
function_is (Some called) arg before = ap (λ (r : Reply). replies_with (Replies r) before) (reply_is called before.store arg)

abbrev ran_as : (CallOutcome → Option CallOutcome) → List EntryText → BodyText → ℤ → State → Acted
ran_as caller entries body arg before =
    let ran = effect_as arg body before.store (pos 0) in
    let left = serviced_as (length (all_calls before.queues)) entries ran.0 before.queues in
    record { caller = caller (Replies (reply_of ran.1)); replied = left.0; after = left.1 }

ran_is : (caller : CallOutcome → Option CallOutcome) (operations : Operations) (body : List Stmt) (arg : ℤ) (before : State)
    → ran_for caller operations body arg before ≡ ran_as caller (map entry_text operations.entries.items) (body_text body) arg before
ran_is caller operations body arg before =
    let end : (Store × Outcome) → Serviced → Acted = λ ran left. record { caller = caller (Replies (reply_of ran.1)); replied = left.0; after = left.1 } in
    let after = effect_as arg (body_text body) before.store (pos 0) in
    ap (λ (ran : Store × Outcome). end ran (serviced operations ran.0 before.queues)) (body_is body arg before.store)
    ∙ ap (end after) (serviced_is (length (all_calls before.queues)) operations.entries.items after.0 before.queues)

procedure_as : List EntryText → Option BodyText → ℤ → State → Acted
procedure_as entries None arg before = replies_with (Replies NoSuchOperation) before
procedure_as entries (Some body) arg before = ran_as (λ outcome. Some outcome) entries body arg before

procedure_is : (operations : Operations) (called : Option (Vec Stmt Global)) (arg : ℤ) (before : State)
    → procedure_called operations called arg before ≡ procedure_as (map entry_text operations.entries.items) (option_map procedure_text called) arg before
unfolding procedure_as
procedure_is operations None arg before = refl
procedure_is operations (Some body) arg before = ran_is (λ outcome. Some outcome) operations body.items arg before

entry_as : List EntryText → Option EntryText → ℕ → Waiting → State → Acted
entry_as entries None index call before = replies_with (Replies NoSuchOperation) before
entry_as entries (Some entry) index call before =
    if bool_value before.store entry.barrier
    then ran_as (λ outcome. Some outcome) entries entry.body call.arg before
    else if nat_lt (length (queue_at before.queues (index - 1))) entry.longest
    then replies_with Waits (with_caller before index call)
    else replies_with (Replies ProgramError) before

entry_is : (operations : Operations) (called : Option Entry) (index : ℕ) (call : Waiting) (before : State)
    → entry_called operations called index call before ≡ entry_as (map entry_text operations.entries.items) (option_map entry_text called) index call before
unfolding entry_as
entry_is operations None index call before = refl
entry_is operations (Some entry) index call before =
    let closed : Acted = if nat_lt (length (queue_at before.queues (index - 1))) entry.longest then replies_with Waits (with_caller before index call) else replies_with (Replies ProgramError) before in
    ap (λ (a : Acted). cond {A = Acted} (bool_value before.store entry.barrier) a closed) (ran_is (λ outcome. Some outcome) operations entry.body.items call.arg before)

event_as : List EntryText → Option BodyText → State → Acted
event_as entries None before = record { caller = None; replied = []; after = before }
event_as entries (Some body) before = ran_as (λ outcome. None) entries body (pos 0) before

event_is : (operations : Operations) (called : Option (Vec Stmt Global)) (before : State)
    → event_handled operations called before ≡ event_as (map entry_text operations.entries.items) (option_map procedure_text called) before
unfolding event_as
event_is operations None before = refl
event_is operations (Some body) before = ran_is (λ outcome. None) operations body.items (pos 0) before

acted_as : Meant → State → Request → Acted
acted_as operations before (calls_function index arg) = function_as (of_index operations.functions index) arg before
acted_as operations before (calls_procedure index arg) = procedure_as operations.entries (of_index operations.procedures index) arg before
acted_as operations before (calls_entry index call) = entry_as operations.entries (of_index operations.entries index) index call before
acted_as operations before (event index) = event_as operations.entries (of_index operations.procedures index) before

acted_is : (operations : Operations) (before : State) (request : Request) → acted operations before request ≡ acted_as (meant operations) before request
unfolding acted_as
acted_is operations before (calls_function index arg) =
    function_is (of_index operations.functions.items index) arg before
    ∙ ap (λ (o : Option FunctionText). function_as o arg before) (sym (of_map function_text operations.functions.items index))
acted_is operations before (calls_procedure index arg) =
    procedure_is operations (of_index operations.procedures.items index) arg before
    ∙ ap (λ (o : Option BodyText). procedure_as (map entry_text operations.entries.items) o arg before) (sym (of_map procedure_text operations.procedures.items index))
acted_is operations before (calls_entry index call) =
    entry_is operations (of_index operations.entries.items index) index call before
    ∙ ap (λ (o : Option EntryText). entry_as (map entry_text operations.entries.items) o index call before) (sym (of_map entry_text operations.entries.items index))
acted_is operations before (event index) =
    event_is operations (of_index operations.procedures.items index) before
    ∙ ap (λ (o : Option BodyText). event_as (map entry_text operations.entries.items) o before) (sym (of_map procedure_text operations.procedures.items index))

-- operations that mean the same act alike
pub acts_alike : (one other : Operations) (before : State) (request : Request) → meant one ≡ meant other → acted one before request ≡ acted other before request
acts_alike one other before request same = acted_is one before request ∙ ap (λ (m : Meant). acted_as m before request) same ∙ sym (acted_is other before request)
