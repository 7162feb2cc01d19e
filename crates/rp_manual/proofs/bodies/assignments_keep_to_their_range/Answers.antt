-- By what each statement does, and whether the value lies in the range.
use Rattle.std.proofs.Common.{◌≡◌, ◌∙◌, subst, sym}
use Rattle.rp_object.specs.rp_body.specs.declared.statement.Outcome.{Outcome}
use Rattle.rp_object.specs.rp_body.specs.declared.statement.Outcome.TheVariants.{Out}
use Rattle.rp_object.specs.rp_body.specs.Store.{Store}
use Rattle.rp_object.specs.rp_body.specs.Expressions.{value_of, truth_of}
use Rattle.rp_manual.specs.Statements.{Assigns, SetsBoolean}
use Rattle.rp_manual.proofs.Assigning.{assigns, refuses, sets, puts_out, raises, effect-Set, effect-Put, effect-Out}
use Rattle.rp_manual.proofs.bodies.assignments_keep_to_their_range.Goals as goal

pub returns : goal.returns
returns c = record {
  within = λ arg out name expr store component there above below.
      let value = value_of expr store arg out in
      subst (λ (did : Store × Outcome). Assigns name value store did.0 × (did.1 ≡ Out out)) (sym (effect-Set arg out store name expr)) (assigns out store name component value there above below);
  outside = λ arg out name expr store component there beyond.
      effect-Set arg out store name expr ∙ refuses out store name component (value_of expr store arg out) there beyond;
  booleans = λ arg out name condition store.
      let truth = truth_of condition store arg out in
      subst (λ (did : Store × Outcome). SetsBoolean name truth store did.0 × (did.1 ≡ Out out)) (sym (effect-Put arg out store name condition)) (sets out store name truth);
  out = λ arg out expr store fits. effect-Out arg out store expr ∙ puts_out store (value_of expr store arg out) fits;
  beyond = λ arg out expr store never. effect-Out arg out store expr ∙ raises store (value_of expr store arg out) never;
}
