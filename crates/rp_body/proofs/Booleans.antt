-- A body that fits keeps which Booleans there are.
use Rattle.std.proofs.Common.{◌≡◌, ◌≢◌, ◌<◌, ℕ, ℤ, pos, Bool, true, false, cond, ◌&&◌, Option, Some, None, List, [], ◌∷◌, map, refl, sym, ◌∙◌, ap, subst, IsTrue, eq-eqb, ltb-true}
use Rattle.std.specs.Prelude.{is_some, nat_lt}
use Rattle.std.specs.Ordering.{nat_cmp, eq_by_cmp}
use Rattle.std.specs.Cmp.{unsigned_tied}
use Rattle.std.specs.FinMap.{get, insert, get-insert}
use Rattle.std.proofs.lemmas.Cmp.{nat_cmp_total}
use Rattle.std.proofs.lemmas.Bool.{cases_eq, ne_eqb}
use Rattle.std.proofs.Math.Logic.{⊎_elim}
use Rattle.rp_body.specs.declared.components.Limits.{Limits}
use Rattle.rp_body.specs.declared.components.Ranged.{Ranged}
use Rattle.rp_body.specs.declared.statement.Stmt.{Stmt}
use Rattle.rp_body.specs.declared.statement.Stmt.TheOpen.{Stmt-F}
use Rattle.rp_body.specs.declared.statement.Stmt.TheFolds.{fold-roll-Stmt, ind-Stmt, map-Stmt}
use Rattle.rp_body.specs.declared.statement.Outcome.{Outcome}
use Rattle.rp_body.specs.declared.statement.Outcome.TheVariants.{Out, Raised}
use Rattle.rp_body.specs.Store.{Store, is_within, with_found, with_int, with_bool}
use Rattle.rp_body.specs.Expressions.{value_of, truth_of}
use Rattle.rp_body.specs.Check.{cond_fits, all_hold, fits_step, stmt_fits, body_fits}
use Rattle.rp_body.specs.Meaning.{Effect, then_do, in_order, assigned, effect_of_step, effect_of, effects_of, body_effect}
use Rattle.rp_body.specs.Ranges.{HasBools, HasBoolsOf}

both : (a b : Bool) → (a && b) ≡ true → (a ≡ true) × (b ≡ true)
both true true e = (refl, refl)
both true false e = absurd (cc)
both false b e = absurd (cc)

same_store : (store : Store) → HasBoolsOf store store
same_store store name = refl

-- which Booleans there are after both
then_same : (one two three : Store) → HasBoolsOf one two → HasBoolsOf two three → HasBoolsOf one three
then_same one two three first second name = second name ∙ first name

still_has : (limits : Limits) (old new : Store) → HasBoolsOf old new → HasBools limits old → HasBools limits new
still_has limits old new same has name below = same name ∙ has name below

put_same : (store : Store) (name : ℕ) (value : Bool) → is_some (get store.bools name) ≡ true → HasBoolsOf store (with_bool store name value)
put_same store name value there q =
    let found : get (insert store.bools name value) q ≡ cond (eq_by_cmp nat_cmp q name) (Some value) (get store.bools q) = get-insert nat_cmp_total store.bools name value q in
    ⊎_elim
    (λ (e : q ≡ name). ap is_some (found ∙ ap (λ b. cond b (Some value) (get store.bools q)) (unsigned_tied q name ∙ eq-eqb q name e)) ∙ sym (ap (λ (n : ℕ). is_some (get store.bools n)) e ∙ there))
    (λ (other : q ≢ name). ap is_some (found ∙ ap (λ b. cond b (Some value) (get store.bools q)) (unsigned_tied q name ∙ ne_eqb q name other)))
    (cases_eq q name)

found_same : (store : Store) (name : ℕ) (value : ℤ) (found : Option Ranged) → HasBoolsOf store (with_found found store name value).0
found_same store name value None q = refl
found_same store name value (Some old) q =
    elim (is_within old.low old.high value) as (λ b. is_some (get (cond {A = Store × Bool} b (record store { ints = insert store.ints name (record old { value = value }) }, true) (store, false)).0.bools q) ≡ is_some (get store.bools q)) [ true ↦ refl | false ↦ refl ]

assigned_same : (store : Store) (out : ℤ) (ran : Store × Bool) → HasBoolsOf store ran.0 → HasBoolsOf store (assigned out ran).0
assigned_same store out (next, true) same = same
assigned_same store out (next, false) same = same

module _ (limits : Limits) (arg : ℤ) where
  then_keeps : (store : Store) (ran : Store × Outcome) (next : Effect) → HasBoolsOf store ran.0 → ((s : Store) (o : ℤ) → HasBoolsOf store s → HasBoolsOf s (next s o).0) → HasBoolsOf store (then_do ran next).0
  then_keeps store (s, Out o) next first rest = then_same store s (next s o).0 first (rest s o first)
  then_keeps store (s, Raised) next first rest = first

  abbrev Keeps : Stmt → Type 0
  Keeps statement = (store : Store) (out : ℤ) → HasBools limits store → stmt_fits limits statement ≡ true → HasBoolsOf store (effect_of arg statement store out).0

  each_keeps : (body : List ((s : Stmt) × Keeps s)) (store : Store) (out : ℤ) → HasBools limits store → all_hold (map (stmt_fits limits) (map (λ e. e.0) body)) ≡ true
      → HasBoolsOf store (in_order (map (effect_of arg) (map (λ e. e.0) body)) store out).0
  each_keeps [] store out has fits = same_store store
  each_keeps (e ∷ rest) store out has fits =
      let split = both (stmt_fits limits e.0) (all_hold (map (stmt_fits limits) (map (λ e. e.0) rest))) fits in
      then_keeps store (effect_of arg e.0 store out) (in_order (map (effect_of arg) (map (λ e. e.0) rest))) (e.1 store out has split.0)
      (λ s o same. each_keeps rest s o (still_has limits store s same has) split.1)

  abbrev step_of : Stmt-F Stmt → Store → ℤ → Store
  step_of z store out = (effect_of_step arg (map-Stmt Stmt Effect (effect_of arg) z) store out).0

  abbrev fits_of : Stmt-F Stmt → Bool
  fits_of z = fits_step limits (map-Stmt Stmt Bool (stmt_fits limits) z)

  step_keeps : (y : Stmt-F ((s : Stmt) × Keeps s)) (store : Store) (out : ℤ) → HasBools limits store → fits_of (map-Stmt ((s : Stmt) × Keeps s) Stmt (λ e. e.0) y) ≡ true
      → HasBoolsOf store (step_of (map-Stmt ((s : Stmt) × Keeps s) Stmt (λ e. e.0) y) store out)
  step_keeps (Stmt-F.Set name expr) store out has fits =
      assigned_same store out (with_int store name (value_of expr store arg out)) (found_same store name (value_of expr store arg out) (get store.ints name))
  step_keeps (Stmt-F.Put name test) store out has fits =
      let below : name < limits.bools = ltb-true name limits.bools (both (nat_lt name limits.bools) (cond_fits limits test) fits).0 in
      put_same store name (truth_of test store arg out) (has name below)
  step_keeps (Stmt-F.Out expr) store out has fits = same_store store
  step_keeps (Stmt-F.If test first second) store out has fits =
      let ones = all_hold (map (stmt_fits limits) (map (λ e. e.0) first.items)) in
      let others = all_hold (map (stmt_fits limits) (map (λ e. e.0) second.items)) in
      let outer = both (cond_fits limits test && ones) others fits in
      let inner = both (cond_fits limits test) ones outer.0 in
      elim (truth_of test store arg out) as (λ b. HasBoolsOf store (cond {A = Store × Outcome} b (in_order (map (effect_of arg) (map (λ e. e.0) first.items)) store out) (in_order (map (effect_of arg) (map (λ e. e.0) second.items)) store out)).0)
      [ true ↦ each_keeps first.items store out has inner.1 | false ↦ each_keeps second.items store out has outer.1 ]

  statement_keeps : (statement : Stmt) → Keeps statement
  statement_keeps = ind-Stmt Keeps (λ x y is store out has fits.
      subst (λ (e : Effect). HasBoolsOf store (e store out).0) (sym (fold-roll-Stmt Effect (effect_of_step arg) x))
      (subst (λ z. fits_of z ≡ true → HasBoolsOf store (step_of z store out)) is (step_keeps y store out has) (sym (fold-roll-Stmt Bool (fits_step limits) x) ∙ fits)))

  effects_keep : (body : List Stmt) (store : Store) (out : ℤ) → HasBools limits store → all_hold (map (stmt_fits limits) body) ≡ true → HasBoolsOf store (effects_of arg body store out).0
  effects_keep [] store out has fits = same_store store
  effects_keep (s ∷ rest) store out has fits =
      let split = both (stmt_fits limits s) (all_hold (map (stmt_fits limits) rest)) fits in
      then_keeps store (effect_of arg s store out) (in_order (map (effect_of arg) rest)) (statement_keeps s store out has split.0)
      (λ t o same. effects_keep rest t o (still_has limits store t same has) split.1)

pub booleans_kept : (limits : Limits) (body : List Stmt) (arg : ℤ) (store : Store) → HasBools limits store → IsTrue (body_fits limits body) → HasBoolsOf store (body_effect body arg store).0
booleans_kept limits body arg store has fits = effects_keep limits arg body store (pos 0) has fits
