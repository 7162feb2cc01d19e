-- An action keeps which Booleans there are.
use Rattle.std.proofs.Common.{◌≡◌, ◌<◌, ◌≤◌, ◌⊎◌, inl, inr, ℕ, zero, suc, ℤ, List, length, get_or, Option, None, Some, ◌∙◌, refl, subst}
use Rattle.std.specs.List.{All, slice_get}
use Rattle.std.proofs.lemmas.Option.{slice_get_cases}
use Rattle.rp_base.specs.declared.reply.Answer.{Answer}
use Rattle.rp_body.specs.declared.components.Limits.{Limits}
use Rattle.rp_body.specs.declared.statement.Stmt.{Stmt}
use Rattle.rp_body.specs.declared.statement.Outcome.{Outcome}
use Rattle.rp_body.specs.Store.{Store}
use Rattle.rp_body.specs.Check.{KeepsLimits}
use Rattle.rp_body.specs.Meaning.{body_effect}
use Rattle.rp_body.specs.Ranges.{HasBools, HasBoolsOf}
use Rattle.rp_body.proofs.Booleans.{booleans_kept}
use Rattle.rp_entry.specs.declared.operations.Entry.{Entry}
use Rattle.rp_entry.specs.declared.operations.Operations.{Operations}
use Rattle.rp_entry.specs.declared.state.CallOutcome.{CallOutcome}
use Rattle.rp_entry.specs.Operations.{of_index, EntryFits, OperationsFit}
use Rattle.rp_entry.specs.Queue.{State}
use Rattle.rp_entry.specs.Servicing.{Services, ends, goes_on}
use Rattle.rp_entry.specs.Actions.{Request, Runs, Acts, function, procedure, open_entry, closed_entry, full_queue, handler, no_function, no_procedure, no_entry, no_handler}
use Rattle.rp_entry.proofs.Acting.{missing, one_item}

-- what holds of each holds of the one of an index
pub all_at : {X : Type 0} (P : X → Type 0) (xs : List X) (index : ℕ) (x : X) → All P xs → of_index xs index ≡ Some x → P x
all_at P xs zero x all there = absurd (missing there refl)
all_at {X} P xs (suc i) x all there = found (slice_get_cases xs i).1 where
  found : ((y : X) × (i < length xs) × (slice_get xs i ≡ Some y) × (get_or xs i y ≡ y)) ⊎ ((length xs ≤ i) × (slice_get xs i ≡ None)) → P x
  found (inl (y, below, at, read)) = subst P (one_item at there) (subst P read (all i y below))
  found (inr (past, none)) = absurd (missing there none)

module _ (limits : Limits) (operations : Operations) (fits : OperationsFit limits operations) where
  entry_body : (index : ℕ) (entry : Entry) → of_index operations.entries.items index ≡ Some entry → KeepsLimits limits entry.body.items
  entry_body index entry there = (all_at (EntryFits limits) operations.entries.items index entry fits.entries there).body

  body_keeps : (body : List Stmt) (arg : ℤ) (before after : Store) (ended : Outcome) → KeepsLimits limits body → HasBools limits before → body_effect body arg before ≡ (after, ended) → HasBoolsOf before after
  body_keeps body arg before after ended keeps has run = subst (λ (ran : Store × Outcome). HasBoolsOf before ran.0) run (booleans_kept limits body arg before has keeps.fits)

  services_keep : {before after : State} {replied : List Answer} → Services operations before replied after → HasBools limits before.store → HasBoolsOf before.store after.store
  services_keep (ends serviced) has name = refl
  services_keep (goes_on {before = before} {between = between} step rest) has name =
      let one = body_keeps step.ready.entry.body.items step.ready.call.arg before.store between.store step.ended (entry_body (suc step.place) step.ready.entry step.ready.declared) has step.run in
      services_keep rest (λ n below. one n ∙ has n below) name ∙ one name

  runs_keep : {body : List Stmt} {arg : ℤ} {before after : State} {outcome : CallOutcome} {replied : List Answer} → Runs operations body arg before outcome replied after → KeepsLimits limits body → HasBools limits before.store → HasBoolsOf before.store after.store
  runs_keep {body = body} {arg = arg} {before = before} runs keeps has name =
      let one = body_keeps body arg before.store runs.store runs.ended keeps has runs.run in
      services_keep runs.serviced (λ n below. one n ∙ has n below) name ∙ one name

  pub acts_keep_booleans : {before after : State} {request : Request} {caller : Option CallOutcome} {replied : List Answer} → Acts operations before request caller replied after → HasBools limits before.store → HasBoolsOf before.store after.store
  acts_keep_booleans (function there) has name = refl
  acts_keep_booleans (procedure {index = index} {body = body} there runs) has name = runs_keep runs (all_at (λ b. KeepsLimits limits b.items) operations.procedures.items index body fits.procedures there) has name
  acts_keep_booleans (open_entry {index = index} {entry = entry} there up runs) has name = runs_keep runs (entry_body index entry there) has name
  acts_keep_booleans (closed_entry there shut room) has name = refl
  acts_keep_booleans (full_queue there shut full) has name = refl
  acts_keep_booleans (handler {index = index} {body = body} there runs) has name = runs_keep runs (all_at (λ b. KeepsLimits limits b.items) operations.procedures.items index body fits.procedures there) has name
  acts_keep_booleans (no_function none) has name = refl
  acts_keep_booleans (no_procedure none) has name = refl
  acts_keep_booleans (no_entry none) has name = refl
  acts_keep_booleans (no_handler none) has name = refl
