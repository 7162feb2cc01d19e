-- Expressions, conditions and bodies in memory do what their names say.
use Rattle.std.proofs.Common.{◌≡◌, ℤ, pos, cond, List, refl, sym, ap, ◌∙◌}
use Rattle.std.specs.Prelude.{◌+ℤ◌, ◌-ℤ◌, int_lt, int_le, ◌&&◌, ◌||◌, not, if◌then◌else◌, ℕ}
use Rattle.std.specs.Ordering.{int_eq}
use Rattle.rp_deck_declarations.specs.rp_body.specs.declared.statement.Stmt.{Stmt}
use Rattle.rp_deck_declarations.specs.rp_body.specs.declared.statement.Outcome.TheVariants.{Out, Raised}
use Rattle.rp_deck_declarations.specs.rp_body.specs.Store.{Store, with_int, with_bool}
use Rattle.rp_deck_declarations.specs.rp_body.specs.Expressions.{fits_64}
use Rattle.rp_deck_declarations.specs.rp_body.specs.Meaning.{then_do, assigned}
use Rattle.rp_object.specs.rp_entry.specs.declared.operations.Function.{Function}
use Rattle.rp_object.specs.rp_entry.specs.declared.operations.Function.TheVariants as declared_functions
use Rattle.rp_deck_bodies.specs.Bodies.{BodyText}
use Rattle.rp_deck_bodies.specs.BodyViews.{body_text}
use Rattle.rp_deck_bodies.specs.Expressions.{ExprText, CondText}
use Rattle.rp_deck_bodies.specs.ExpressionViews.{expr_text, cond_text}
use Rattle.rp_deck_declarations.specs.rp_deck_objects.specs.ObjectViews.{function_text}
use Rattle.rp_deck_laws.proofs.Bodies.{value_as, value_is, truth_as, truth_is, effect_as, body_is}
use Rattle.rp_deck_laws.specs.Names.{place_in}
use Rattle.rp_deck_laws.specs.Named.{NamedExpr, NamedCond, NamedBody, NamedResult, Value, Truth}
use Rattle.rp_deck_laws.specs.Named.{NamedExpr as exprs}
use Rattle.rp_deck_laws.specs.Named.{NamedCond as conds}
use Rattle.rp_deck_laws.specs.Named.{NamedBody as bodies}
use Rattle.rp_deck_laws.specs.NamedMeanings.{expr_meant, cond_meant, body_meant, result_meant}
use Rattle.rp_deck_laws.specs.NamedEffects.{value_named, truth_named, effect_named}
use Rattle.rp_deck_laws.specs.NamedPrograms.{Does, Returns}

module _ (whole truths : List (List ℕ)) where
  value_same : (e : NamedExpr) (store : Store) (arg out : ℤ) → value_as (expr_meant whole truths e) store arg out ≡ value_named whole truths e store arg out
  value_same (exprs.Number number) store arg out = refl
  value_same exprs.Arg store arg out = refl
  value_same exprs.Out store arg out = refl
  value_same (exprs.Int name) store arg out = refl
  value_same (exprs.Add a b) store arg out = λ k. value_same a store arg out k +ℤ value_same b store arg out k
  value_same (exprs.Sub a b) store arg out = λ k. value_same a store arg out k -ℤ value_same b store arg out k

  truth_same : (c : NamedCond) (store : Store) (arg out : ℤ) → truth_as (cond_meant whole truths c) store arg out ≡ truth_named whole truths c store arg out
  truth_same (conds.Constant truth) store arg out = refl
  truth_same (conds.Named name) store arg out = refl
  truth_same (conds.Less a b) store arg out = λ k. int_lt (value_same a store arg out k) (value_same b store arg out k)
  truth_same (conds.LessOrEqual a b) store arg out = λ k. int_le (value_same a store arg out k) (value_same b store arg out k)
  truth_same (conds.Equal a b) store arg out = λ k. int_eq (value_same a store arg out k) (value_same b store arg out k)
  truth_same (conds.Not c) store arg out = λ k. not (truth_same c store arg out k)
  truth_same (conds.And c d) store arg out = λ k. truth_same c store arg out k && truth_same d store arg out k
  truth_same (conds.Or c d) store arg out = λ k. truth_same c store arg out k || truth_same d store arg out k

  effect_same : (arg : ℤ) (b : NamedBody) (store : Store) (out : ℤ) → effect_as arg (body_meant whole truths b) store out ≡ effect_named whole truths arg b store out
  effect_same arg bodies.Empty store out = refl
  effect_same arg (bodies.Set earlier name value) store out = λ k. then_do (effect_same arg earlier store out k) (λ s o. assigned o (with_int s (place_in name whole) (value_same value s arg o k)))
  effect_same arg (bodies.Put earlier name value) store out = λ k. then_do (effect_same arg earlier store out k) (λ s o. (with_bool s (place_in name truths) (truth_same value s arg o k), Out o))
  effect_same arg (bodies.Return earlier value) store out = λ k. then_do (effect_same arg earlier store out k) (λ s o. (s, if fits_64 (value_same value s arg o k) then Out (value_same value s arg o k) else Raised))
  effect_same arg (bodies.If earlier condition first second) store out =
      λ k. then_do (effect_same arg earlier store out k) (λ s o. cond (truth_same condition s arg o k) (effect_same arg first s o k) (effect_same arg second s o k))

  pub does_it : (b : NamedBody) (statements : List Stmt) → body_meant whole truths b ≡ body_text statements → Does whole truths b statements
  does_it b statements e = λ arg store. body_is statements arg store ∙ ap (λ (t : BodyText). effect_as arg t store (pos 0)) (sym e) ∙ effect_same arg b store (pos 0)

  pub returns_it : (r : NamedResult) (f : Function) → result_meant whole truths r ≡ function_text f → Returns whole truths r f
  returns_it (Value value) (declared_functions.Value expr) e =
      let same : expr_meant whole truths value ≡ expr_text expr = cc in
      λ store arg out. value_is expr store arg out ∙ ap (λ (t : ExprText). value_as t store arg out) (sym same) ∙ value_same value store arg out
  returns_it (Truth truth) (declared_functions.Truth test) e =
      let same : cond_meant whole truths truth ≡ cond_text test = cc in
      λ store arg out. truth_is test store arg out ∙ ap (λ (t : CondText). truth_as t store arg out) (sym same) ∙ truth_same truth store arg out
  returns_it (Value value) (declared_functions.Truth test) e = absurd cc
  returns_it (Truth truth) (declared_functions.Value expr) e = absurd cc
