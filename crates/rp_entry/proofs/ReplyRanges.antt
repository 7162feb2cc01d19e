-- The replies that a protected action gives have values of 64 signed bits.
use Rattle.std.proofs.Common.{◌≡◌, ℤ, pos, Bool, true, false, if◌then◌else◌, Option, Some, None, List, [], ◌∷◌, Vec, Global, inl, inr, refl, sym, subst}
use Rattle.std.specs.Prelude.{IfSome, ◌-◌, ℕ, zero, suc, nat_lt, length}
use Rattle.rp_base.specs.Right.{IsReply}
use Rattle.rp_base.specs.Sets.{Has}
use Rattle.rp_base.specs.declared.reply.Answer.{Answer}
use Rattle.rp_base.specs.declared.reply.Reply.{Reply as CallReply}
use Rattle.rp_base.specs.declared.reply.Reply.TheVariants.{Value, ConstraintError, ProgramError}
use Rattle.rp_body.specs.declared.statement.Outcome.{Outcome}
use Rattle.rp_body.specs.declared.statement.Outcome.TheVariants.{Out, Raised}
use Rattle.rp_body.specs.declared.statement.Stmt.{Stmt}
use Rattle.rp_body.specs.Expressions.{value_of, fits_64}
use Rattle.rp_body.specs.Meaning.{body_effect}
use Rattle.rp_body.specs.Store.{Store, bool_value}
use Rattle.rp_body.proofs.Outs.{OutFits, fits_signed, out_fits}
use Rattle.rp_entry.specs.declared.operations.Function.{Function}
use Rattle.rp_entry.specs.declared.operations.Function.TheVariants.{Value as Whole, Truth as Condition}
use Rattle.rp_entry.specs.declared.operations.Entry.{Entry}
use Rattle.rp_entry.specs.declared.operations.Operations.{Operations}
use Rattle.rp_entry.specs.declared.state.Waiting.{Waiting}
use Rattle.rp_entry.specs.declared.state.CallOutcome.{CallOutcome}
use Rattle.rp_entry.specs.declared.state.CallOutcome.TheVariants.{Reply, Waits}
use Rattle.rp_entry.specs.Operations.{of_index}
use Rattle.rp_entry.specs.Queue.{State, queue_at, all_calls}
use Rattle.rp_entry.specs.Replies.{reply_of, function_reply}
use Rattle.rp_entry.specs.Actions.{Request, calls_function, calls_procedure, calls_entry, event, with_caller}
use Rattle.rp_entry.specs.Results.{Acted, Next, next_to_serve, served, serviced_from, replies_with, ran_for, function_called, procedure_called, entry_called, event_handled, acted}

-- each of these replies fits
abbrev pub AreReplies : List Answer → Type 0
AreReplies replied = (answer : Answer) → Has answer replied → IsReply answer.reply

-- the reply to a caller fits, if it does not wait
abbrev pub OutcomeFits : CallOutcome → Type 0
OutcomeFits (Reply reply) = IsReply reply
OutcomeFits Waits = Unit {0}

-- all replies of an action fit
pub record AnswersFit (caller : Option CallOutcome) (replied : List Answer) : Type 0 where
  pub own : IfSome caller OutcomeFits
  pub served : AreReplies replied

ended_fits : (ended : Outcome) → OutFits ended → IsReply (reply_of ended)
ended_fits (Out out) fits = fits
ended_fits Raised fits = tt

body_reply_fits : (body : List Stmt) (arg : ℤ) (store : Store) → IsReply (reply_of (body_effect body arg store).1)
body_reply_fits body arg store = ended_fits (body_effect body arg store).1 (out_fits body arg store)

nobody : AreReplies []
nobody answer h = absurd h

one_more : (answer : Answer) (rest : List Answer) → IsReply answer.reply → AreReplies rest → AreReplies (answer ∷ rest)
one_more answer rest one others other h = elim h [ inl same ↦ subst (λ (a : Answer). IsReply a.reply) (sym same) one | inr later ↦ others other later ]

next_fits : (later : Store → List (List Waiting) → List Answer × State) (store : Store) (queues : List (List Waiting)) (found : Option Next)
    → ((s : Store) (q : List (List Waiting)) → AreReplies (later s q).0) → AreReplies (served later store queues found).0
next_fits later store queues None fits = nobody
next_fits later store queues (Some next) fits =
    let ran = body_effect next.entry.body.items next.call.arg store in
    one_more (record { task = next.call.task; number = next.call.number; reply = reply_of ran.1 }) (later ran.0 next.left).0 (body_reply_fits next.entry.body.items next.call.arg store) (fits ran.0 next.left)

serviced_fits : (most : ℕ) (entries : List Entry) (store : Store) (queues : List (List Waiting)) → AreReplies (serviced_from most entries store queues).0
serviced_fits zero entries store queues = nobody
serviced_fits (suc most) entries store queues = next_fits (serviced_from most entries) store queues (next_to_serve store entries queues) (serviced_fits most entries)

ran_fits : (caller : CallOutcome → Option CallOutcome) (operations : Operations) (body : List Stmt) (arg : ℤ) (before : State)
    → ((outcome : CallOutcome) → OutcomeFits outcome → IfSome (caller outcome) OutcomeFits)
    → (let did = ran_for caller operations body arg before in AnswersFit did.caller did.replied)
ran_fits caller operations body arg before passes = record {
  own = passes (Reply (reply_of (body_effect body arg before.store).1)) (body_reply_fits body arg before.store);
  served = serviced_fits (length (all_calls before.queues)) operations.entries.items (body_effect body arg before.store).0 before.queues;
}

abbrev Fits : Acted → Type 0
Fits did = AnswersFit did.caller did.replied

reply_fits : (reply : CallReply) (state : State) → IsReply reply → Fits (replies_with (Reply reply) state)
reply_fits reply state fits = record { own = fits; served = nobody }

value_fits : (value : ℤ) (b : Bool) → fits_64 value ≡ b → IsReply (let reply : CallReply = if b then Value value else ConstraintError in reply)
value_fits value true e = fits_signed value e
value_fits value false e = tt

function_fits : (called : Function) (store : Store) (arg : ℤ) → IsReply (function_reply called store arg)
function_fits (Whole expr) store arg = value_fits (value_of expr store arg (pos 0)) (fits_64 (value_of expr store arg (pos 0))) refl
function_fits (Condition test) store arg = tt

function_call_fits : (called : Option Function) (arg : ℤ) (before : State) → Fits (function_called called arg before)
function_call_fits None arg before = reply_fits _ before tt
function_call_fits (Some called) arg before = reply_fits (function_reply called before.store arg) before (function_fits called before.store arg)

procedure_call_fits : (operations : Operations) (body : Option (Vec Stmt Global)) (arg : ℤ) (before : State) → Fits (procedure_called operations body arg before)
procedure_call_fits operations None arg before = reply_fits _ before tt
procedure_call_fits operations (Some body) arg before = ran_fits (λ outcome. Some outcome) operations body.items arg before (λ outcome fits. fits)

waits_fits : (state : State) → Fits (replies_with Waits state)
waits_fits state = record { own = tt; served = nobody }

either_fits : (test : Bool) (one other : Acted) → Fits one → Fits other → Fits (if test then one else other)
either_fits true one other left right = left
either_fits false one other left right = right

entry_call_fits : (operations : Operations) (entry : Option Entry) (index : ℕ) (call : Waiting) (before : State) → Fits (entry_called operations entry index call before)
entry_call_fits operations None index call before = reply_fits _ before tt
entry_call_fits operations (Some entry) index call before =
    either_fits (bool_value before.store entry.barrier) _ _
    (ran_fits (λ outcome. Some outcome) operations entry.body.items call.arg before (λ outcome fits. fits))
    (either_fits (nat_lt (length (queue_at before.queues (index - 1))) entry.longest) _ _ (waits_fits (with_caller before index call)) (reply_fits ProgramError before tt))

event_fits : (operations : Operations) (body : Option (Vec Stmt Global)) (before : State) → Fits (event_handled operations body before)
event_fits operations None before = record { own = tt; served = nobody }
event_fits operations (Some body) before = ran_fits (λ outcome. None) operations body.items (pos 0) before (λ outcome fits. tt)

pub acted_fits : (operations : Operations) (before : State) (request : Request) → (let did = acted operations before request in AnswersFit did.caller did.replied)
acted_fits operations before (calls_function index arg) = function_call_fits (of_index operations.functions.items index) arg before
acted_fits operations before (calls_procedure index arg) = procedure_call_fits operations (of_index operations.procedures.items index) arg before
acted_fits operations before (calls_entry index call) = entry_call_fits operations (of_index operations.entries.items index) index call before
acted_fits operations before (event index) = event_fits operations (of_index operations.procedures.items index) before
