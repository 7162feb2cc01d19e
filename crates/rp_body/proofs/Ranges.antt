-- A body keeps the ranges of whole numbers.
use Rattle.std.proofs.Common.{◌≡◌, ◌≢◌, ℕ, ℤ, pos, Bool, true, false, cond, Option, Some, None, List, [], ◌∷◌, map, refl, sym, ◌∙◌, ap, subst, IsTrue, eq-eqb}
use Rattle.std.specs.Prelude.{option_map, IfSome}
use Rattle.std.specs.Ordering.{nat_cmp, eq_by_cmp}
use Rattle.std.specs.Cmp.{unsigned_tied}
use Rattle.std.specs.FinMap.{get, insert, get-insert}
use Rattle.std.proofs.lemmas.Cmp.{nat_cmp_total}
use Rattle.std.proofs.lemmas.Bool.{cases_eq, ne_eqb}
use Rattle.std.proofs.Math.Logic.{⊎_elim}
use Rattle.rp_body.specs.declared.components.Ranged.{Ranged}
use Rattle.rp_body.specs.declared.statement.Stmt.{Stmt}
use Rattle.rp_body.specs.declared.statement.Stmt.TheOpen.{Stmt-F}
use Rattle.rp_body.specs.declared.statement.Stmt.TheFolds.{fold-roll-Stmt, ind-Stmt, map-Stmt}
use Rattle.rp_body.specs.declared.statement.Outcome.{Outcome}
use Rattle.rp_body.specs.declared.statement.Outcome.TheVariants.{Out, Raised}
use Rattle.rp_body.specs.Store.{Store, is_within, with_found, with_int, with_bool}
use Rattle.rp_body.specs.Expressions.{value_of, truth_of}
use Rattle.rp_body.specs.Meaning.{Effect, then_do, in_order, assigned, effect_of_step, effect_of, effects_of, body_effect}
use Rattle.rp_body.specs.Ranges.{range_of, KeepsRanges}

pub keeps_same : (store : Store) → KeepsRanges store store
keeps_same store = record { ranges = λ name. refl; values = λ inside. inside }

pub keeps_on : (one two three : Store) → KeepsRanges one two → KeepsRanges two three → KeepsRanges one three
keeps_on one two three first second = record {
  ranges = λ name. second.ranges name ∙ first.ranges name;
  values = λ inside. second.values (first.values inside);
}

-- ---- assignments

placed : (store : Store) (name : ℕ) (old : Ranged) (value : ℤ) → get store.ints name ≡ Some old → is_within old.low old.high value ≡ true
    → KeepsRanges store (record store { ints = insert store.ints name (record old { value = value }) })
placed store name old value there within =
    let new : Ranged = record old { value = value } in
    let found : (q : ℕ) → get (insert store.ints name new) q ≡ cond (eq_by_cmp nat_cmp q name) (Some new) (get store.ints q) = λ q. get-insert nat_cmp_total store.ints name new q in
    let here : (q : ℕ) → q ≡ name → get (insert store.ints name new) q ≡ Some new = λ q e.
    found q ∙ ap (λ b. cond b (Some new) (get store.ints q)) (unsigned_tied q name ∙ eq-eqb q name e) in
    let apart : (q : ℕ) → q ≢ name → get (insert store.ints name new) q ≡ get store.ints q = λ q other.
    found q ∙ ap (λ b. cond b (Some new) (get store.ints q)) (unsigned_tied q name ∙ ne_eqb q name other) in
    record {
      ranges = λ q. ⊎_elim
          (λ (e : q ≡ name). ap (option_map range_of) (here q e) ∙ sym (ap (option_map range_of) (ap (get store.ints) e ∙ there)))
          (λ (other : q ≢ name). ap (option_map range_of) (apart q other))
          (cases_eq q name);
      values = λ inside q. ⊎_elim
          (λ (e : q ≡ name). subst (λ (found : Option Ranged). IfSome found (λ c. IsTrue (is_within c.low c.high c.value))) (sym (here q e)) within)
          (λ (other : q ≢ name). subst (λ (found : Option Ranged). IfSome found (λ c. IsTrue (is_within c.low c.high c.value))) (sym (apart q other)) (inside q))
          (cases_eq q name);
    }

found_keeps : (store : Store) (name : ℕ) (value : ℤ) (found : Option Ranged) → get store.ints name ≡ found → KeepsRanges store (with_found found store name value).0
found_keeps store name value None there = keeps_same store
found_keeps store name value (Some old) there =
    elim (is_within old.low old.high value) as (λ b. is_within old.low old.high value ≡ b → KeepsRanges store (cond {A = Store × Bool} b (record store { ints = insert store.ints name (record old { value = value }) }, true) (store, false)).0)
    [ true ↦ (λ within. placed store name old value there within) | false ↦ (λ out. keeps_same store) ] refl

assigned_keeps : (store : Store) (out : ℤ) (ran : Store × Bool) → KeepsRanges store ran.0 → KeepsRanges store (assigned out ran).0
assigned_keeps store out (next, true) keeps = keeps
assigned_keeps store out (next, false) keeps = keeps

put_keeps : (store : Store) (name : ℕ) (value : Bool) → KeepsRanges store (with_bool store name value)
put_keeps store name value = record { ranges = λ q. refl; values = λ inside. inside }

-- ---- statements

then_keeps : (store : Store) (ran : Store × Outcome) (next : Effect) → KeepsRanges store ran.0 → ((s : Store) (o : ℤ) → KeepsRanges s (next s o).0) → KeepsRanges store (then_do ran next).0
then_keeps store (s, Out o) next first rest = keeps_on store s (next s o).0 first (rest s o)
then_keeps store (s, Raised) next first rest = first

abbrev Keeps : ℤ → Stmt → Type 0
Keeps arg statement = (store : Store) (out : ℤ) → KeepsRanges store (effect_of arg statement store out).0

each_keeps : (arg : ℤ) (body : List ((s : Stmt) × Keeps arg s)) (store : Store) (out : ℤ) → KeepsRanges store (in_order (map (effect_of arg) (map (λ e. e.0) body)) store out).0
each_keeps arg [] store out = keeps_same store
each_keeps arg (e ∷ rest) store out =
    then_keeps store (effect_of arg e.0 store out) (in_order (map (effect_of arg) (map (λ e. e.0) rest))) (e.1 store out) (λ s o. each_keeps arg rest s o)

abbrev step_of : ℤ → Stmt-F Stmt → Store → ℤ → Store
step_of arg z store out = (effect_of_step arg (map-Stmt Stmt Effect (effect_of arg) z) store out).0

step_keeps : (arg : ℤ) (y : Stmt-F ((s : Stmt) × Keeps arg s)) (store : Store) (out : ℤ) → KeepsRanges store (step_of arg (map-Stmt ((s : Stmt) × Keeps arg s) Stmt (λ e. e.0) y) store out)
step_keeps arg (Stmt-F.Set name expr) store out =
    assigned_keeps store out (with_int store name (value_of expr store arg out)) (found_keeps store name (value_of expr store arg out) (get store.ints name) refl)
step_keeps arg (Stmt-F.Put name test) store out = put_keeps store name (truth_of test store arg out)
step_keeps arg (Stmt-F.Out expr) store out = keeps_same store
step_keeps arg (Stmt-F.If test first second) store out =
    elim (truth_of test store arg out) as (λ b. KeepsRanges store (cond {A = Store × Outcome} b (in_order (map (effect_of arg) (map (λ e. e.0) first.items)) store out) (in_order (map (effect_of arg) (map (λ e. e.0) second.items)) store out)).0)
    [ true ↦ each_keeps arg first.items store out | false ↦ each_keeps arg second.items store out ]

statement_keeps : (arg : ℤ) (statement : Stmt) → Keeps arg statement
statement_keeps arg = ind-Stmt (Keeps arg) (λ x y is store out.
    subst (λ (e : Effect). KeepsRanges store (e store out).0) (sym (fold-roll-Stmt Effect (effect_of_step arg) x))
    (subst (λ z. KeepsRanges store (step_of arg z store out)) is (step_keeps arg y store out)))

effects_keep : (arg : ℤ) (body : List Stmt) (store : Store) (out : ℤ) → KeepsRanges store (effects_of arg body store out).0
effects_keep arg [] store out = keeps_same store
effects_keep arg (s ∷ rest) store out =
    then_keeps store (effect_of arg s store out) (in_order (map (effect_of arg) rest)) (statement_keeps arg s store out) (λ t o. effects_keep arg rest t o)

pub body_keeps : (body : List Stmt) (arg : ℤ) (store : Store) → KeepsRanges store (body_effect body arg store).0
body_keeps body arg store = effects_keep arg body store (pos 0)
