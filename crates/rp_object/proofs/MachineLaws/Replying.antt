-- The replies that an action of a program gives have values of 64 signed bits.
use Rattle.std.proofs.Common.{ℕ, pos, Bool, true, false, if◌then◌else◌, Option, Some, None, List}
use Rattle.std.proofs.Common.{[], ◌∷◌, ◌++◌, inl, inr, refl, sym, subst}
use Rattle.std.specs.Prelude.{IfSome, max}
use Rattle.rp_base.specs.Right.{IsReply}
use Rattle.rp_base.proofs.Members.{has_split}
use Rattle.rp_base.specs.declared.action.Action.{Action}
use Rattle.rp_base.specs.declared.action.Action.TheVariants.{Noop, Call, Interrupt, Tick}
use Rattle.rp_base.specs.declared.action.Operation.{Operation}
use Rattle.rp_base.specs.declared.action.Operation.TheVariants.{Function, Procedure, Entry}
use Rattle.rp_base.specs.declared.action.Operation.TheVariants.{SetTimer, CancelTimer}
use Rattle.rp_base.specs.declared.reply.Answer.{Answer}
use Rattle.rp_base.specs.declared.reply.Reply.{Reply as CallReply}
use Rattle.rp_base.specs.declared.reply.Reply.TheVariants.{Value, Truth, ProgramError}
use Rattle.rp_base.specs.declared.reply.Reply.TheVariants.{NoSuchOperation}
use Rattle.rp_entry.specs.rp_body.proofs.Outs.{fits_signed}
use Rattle.rp_entry.specs.declared.state.Waiting.{Waiting}
use Rattle.rp_entry.specs.declared.state.CallOutcome.{CallOutcome}
use Rattle.rp_entry.specs.declared.state.CallOutcome.TheVariants.{Reply, Waits}
use Rattle.rp_entry.specs.Operations.{of_index}
use Rattle.rp_entry.specs.Protected.{Protected}
use Rattle.rp_entry.specs.Actions.{Request, calls_function, calls_procedure, calls_entry, event}
use Rattle.rp_entry.proofs.ReplyRanges.{AreReplies, OutcomeFits, AnswersFit, acted_fits}
use Rattle.rp_machine.specs.Calls.{CallName}
use Rattle.rp_object.specs.declared.program.Handler.{Handler}
use Rattle.rp_object.specs.declared.program.Declarations.{Declarations}
use Rattle.rp_object.specs.Program.{is_declared, is_within_ceiling, interrupt_handler}
use Rattle.rp_object.specs.Program.{timer_handler}
use Rattle.rp_object.specs.State.{ProgramState}
use Rattle.rp_object.specs.Step.{Result, nothing, ends_with, with_timer, object_acts, asks, is_set}
use Rattle.rp_object.specs.Step.{asks_within, allowed, called, handled, fires, fire, program_step}
use Rattle.rp_object.specs.Step.{own_answer, answers_of}
use Rattle.rp_object.specs.Timers.{due_events}

abbrev Fits : Result → Type 0
Fits result = AnswersFit result.caller result.replied

nobody : AreReplies []
nobody answer h = absurd h

both_fit : (xs ys : List Answer) → AreReplies xs → AreReplies ys → AreReplies (xs ++ ys)
both_fit xs ys left right answer h =
    elim (has_split answer xs ys h)
    [ inl before ↦ left answer before | inr following ↦ right answer following ]

nothing_fits : (before : ProgramState) → Fits (nothing before)
nothing_fits before = record { own = tt; served = nobody }

ends_fits : (reply : CallReply) (after : ProgramState) → IsReply reply
    → Fits (ends_with (Reply reply) after)
ends_fits reply after fits = record { own = fits; served = nobody }

object_fits : (before : ProgramState) (number : ℕ) (request : Request) (found : Option Protected)
    → Fits (object_acts before number request found)
object_fits before number request None = nothing_fits before
object_fits before number request (Some object) =
    let did = acted_fits object.operations object.state request in
    record { own = did.own; served = did.served }

asks_fits : (before : ProgramState) (number : ℕ) (request : Request)
    → Fits (asks before number request)
asks_fits before number request = object_fits before number request (of_index before.objects number)

either_fits : (test : Bool) (one other : Result) → Fits one → Fits other
    → Fits (if test then one else other)
either_fits true one other left right = left
either_fits false one other left right = right

within_fits : (program : Declarations) (before : ProgramState) (call : Waiting) (object : ℕ)
    (request : Request)
    → Fits (asks_within program before call object request)
within_fits program before call object request =
    either_fits (is_within_ceiling program call.task object) (asks before object request)
    (ends_with (Reply ProgramError) before) (asks_fits before object request)
    (ends_fits ProgramError before tt)

allowed_fits : (program : Declarations) (before : ProgramState) (call : Waiting) (object : ℕ)
    (operation : Operation)
    → Fits (allowed program before call object operation)
allowed_fits program before call object (Function index) =
    within_fits program before call object (calls_function index call.arg)
allowed_fits program before call object (Procedure index) =
    within_fits program before call object (calls_procedure index call.arg)
allowed_fits program before call object (Entry index) =
    within_fits program before call object (calls_entry index call)
allowed_fits program before call object (SetTimer index) =
    ends_fits (Value (pos 0)) (with_timer before index (Some call.arg)) (fits_signed (pos 0) refl)
allowed_fits program before call object (CancelTimer index) =
    ends_fits (Truth (is_set before index)) (with_timer before index None) tt

called_fits : (program : Declarations) (before : ProgramState) (call : Waiting) (object : ℕ)
    (operation : Operation)
    → Fits (called program before call object operation)
called_fits program before call object operation =
    either_fits (is_declared program call.task object operation)
    (allowed program before call object operation)
    (ends_with (Reply NoSuchOperation) before)
    (allowed_fits program before call object operation) (ends_fits NoSuchOperation before tt)

handled_fits : (before : ProgramState) (found : Option Handler) → Fits (handled before found)
handled_fits before None = nothing_fits before
handled_fits before (Some handler) = asks_fits before handler.object (event handler.procedure)

fire_fits : (program : Declarations) (before : ProgramState) (numbers : List ℕ)
    → AreReplies (fire program before numbers).replied
fire_fits program before [] = nobody
fire_fits program before (number ∷ rest) =
    let one = fires program before number in
    both_fit one.replied (fire program one.after rest).replied
    (handled_fits (with_timer before number None) (timer_handler program number)).served
    (fire_fits program one.after rest)

own_fits : (call : CallName) (caller : Option CallOutcome) → IfSome caller OutcomeFits
    → AreReplies (own_answer call caller)
own_fits call None fits = nobody
own_fits call (Some Waits) fits = nobody
own_fits call (Some (Reply reply)) fits =
    λ answer h. elim h [
      | inl same ↦ subst (λ (a : Answer). IsReply a.reply) (sym same) fits
      | inr
          none ↦ absurd none
    ]

-- each answer's reply fits
pub step_replies : (program : Declarations) (before : ProgramState) (action : Action)
    → AreReplies (answers_of action (program_step program before action))
step_replies program before Noop = nobody
step_replies program before (Call task number object operation arg) =
    let call : Waiting = record { task = task; number = number; arg = arg } in
    let result = called program before call object operation in
    let fits = called_fits program before call object operation in
    both_fit (own_answer (record { task = task; number = number }) result.caller) result.replied
    (own_fits (record { task = task; number = number }) result.caller fits.own) fits.served
step_replies program before (Interrupt source occurrence) =
    (handled_fits before (interrupt_handler program source)).served
step_replies program before (Tick now) =
    fire_fits program (record before { clock = max before.clock now })
    (due_events (max before.clock now) before.timers)
