-- An action keeps the ranges of whole numbers.
use Rattle.std.proofs.Common.{◌≡◌, ℤ, List, Option, subst}
use Rattle.rp_base.specs.declared.reply.Answer.{Answer}
use Rattle.rp_body.specs.declared.statement.Stmt.{Stmt}
use Rattle.rp_body.specs.declared.statement.Outcome.{Outcome}
use Rattle.rp_body.specs.Store.{Store}
use Rattle.rp_body.specs.Meaning.{body_effect}
use Rattle.rp_body.specs.Ranges.{KeepsRanges}
use Rattle.rp_body.proofs.Ranges.{keeps_same, keeps_on, body_keeps}
use Rattle.rp_entry.specs.declared.operations.Operations.{Operations}
use Rattle.rp_entry.specs.declared.state.CallOutcome.{CallOutcome}
use Rattle.rp_entry.specs.Queue.{State}
use Rattle.rp_entry.specs.Servicing.{Serves, Services, ends, goes_on}
use Rattle.rp_entry.specs.Actions.{Request, Runs, Acts, function, procedure, open_entry, closed_entry, full_queue, handler, no_function, no_procedure, no_entry, no_handler}

ran_keeps : (body : List Stmt) (arg : ℤ) (before after : Store) (ended : Outcome) → body_effect body arg before ≡ (after, ended) → KeepsRanges before after
ran_keeps body arg before after ended run = subst (λ (ran : Store × Outcome). KeepsRanges before ran.0) run (body_keeps body arg before)

serves_keep : {operations : Operations} {before after : State} {answer : Answer} → Serves operations before answer after → KeepsRanges before.store after.store
serves_keep {before = before} {after = after} step = ran_keeps step.ready.entry.body.items step.ready.call.arg before.store after.store step.ended step.run

services_keep : {operations : Operations} {before after : State} {replied : List Answer} → Services operations before replied after → KeepsRanges before.store after.store
services_keep (ends {state = state} serviced) = keeps_same state.store
services_keep (goes_on {before = before} {between = between} {after = after} step rest) =
    keeps_on before.store between.store after.store (serves_keep step) (services_keep rest)

runs_keep : {operations : Operations} {body : List Stmt} {arg : ℤ} {before after : State} {outcome : CallOutcome} {served : List Answer} → Runs operations body arg before outcome served after → KeepsRanges before.store after.store
runs_keep {body = body} {arg = arg} {before = before} {after = after} ran =
    keeps_on before.store ran.store after.store (ran_keeps body arg before.store ran.store ran.ended ran.run) (services_keep ran.serviced)

pub acts_keep : {operations : Operations} {before after : State} {request : Request} {caller : Option CallOutcome} {replied : List Answer} → Acts operations before request caller replied after → KeepsRanges before.store after.store
acts_keep {before = before} (function there) = keeps_same before.store
acts_keep (procedure there ran) = runs_keep ran
acts_keep (open_entry declared up ran) = runs_keep ran
acts_keep {before = before} (closed_entry declared shut room) = keeps_same before.store
acts_keep {before = before} (full_queue declared shut full) = keeps_same before.store
acts_keep (handler there ran) = runs_keep ran
acts_keep {before = before} (no_function none) = keeps_same before.store
acts_keep {before = before} (no_procedure none) = keeps_same before.store
acts_keep {before = before} (no_entry none) = keeps_same before.store
acts_keep {before = before} (no_handler none) = keeps_same before.store
