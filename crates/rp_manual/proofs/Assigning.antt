-- What an assignment does, by whether its value lies in the component's range.
use Rattle.std.proofs.Common.{◌≡◌, ◌≢◌, ◌⊎◌, ◌-◌, ◌^◌, inl, inr, ℕ, ℤ, pos, negsuc, ◌<ℤ◌, ◌≤ℤ◌, Bool, true, false, cond, ◌&&◌, Option, Some, refl, sym, ◌∙◌, ap, subst, arith, eq-eqb, FitsSigned, w64}
use Rattle.std.specs.Prelude.{int_le}
use Rattle.std.specs.Ordering.{nat_cmp}
use Rattle.std.specs.Cmp.{unsigned_tied}
use Rattle.std.specs.FinMap.{FinMap, get, insert, get-insert}
use Rattle.std.proofs.lemmas.Cmp.{nat_cmp_total}
use Rattle.std.proofs.lemmas.Bool.{ne_eqb}
use Rattle.std.proofs.lemmas.Int.{ints}
use Rattle.rp_object.specs.rp_body.specs.declared.components.Ranged.{Ranged}
use Rattle.std.proofs.Common.{Vec, Global}
use Rattle.rp_object.specs.rp_body.specs.declared.expression.Cond.{Cond}
use Rattle.rp_object.specs.rp_body.specs.declared.statement.Stmt.{Stmt, roll-Stmt}
use Rattle.rp_object.specs.rp_body.specs.declared.statement.Stmt.TheOpen.{Stmt-F}
use Rattle.rp_object.specs.rp_body.specs.declared.statement.Stmt.TheVariants.{Set, Put, Out as PutOut, If, rolls-Set, rolls-Put, rolls-Out, rolls-If}
use Rattle.rp_object.specs.rp_body.specs.declared.statement.Stmt.TheFolds.{fold-roll-Stmt, map-Stmt}
use Rattle.rp_object.specs.rp_body.specs.declared.expression.Expr.{Expr}
use Rattle.rp_object.specs.rp_body.specs.declared.statement.Outcome.{Outcome}
use Rattle.rp_object.specs.rp_body.specs.declared.statement.Outcome.TheVariants.{Out, Raised}
use Rattle.rp_object.specs.rp_body.specs.Store.{Store, is_within, with_found, with_int, with_bool}
use Rattle.rp_object.specs.rp_body.specs.Expressions.{fits_64, value_of, truth_of}
use Rattle.rp_object.specs.rp_body.specs.Meaning.{Effect, assigned, effect_of_step, effect_of, effects_of}
use Rattle.rp_object.specs.rp_body.proofs.Outs.{fits_signed}
use Rattle.rp_manual.specs.Statements.{Assigns, SetsBoolean}

-- ---- a map with one value more

module _ {X : Type 0} (map : FinMap nat_cmp X) (name : ℕ) (x : X) where
  pub here : get (insert map name x) name ≡ Some x
  here = get-insert nat_cmp_total map name x name ∙ ap (λ b. cond b (Some x) (get map name)) (unsigned_tied name name ∙ eq-eqb name name refl)

  pub elsewhere : (other : ℕ) → other ≢ name → get (insert map name x) other ≡ get map other
  elsewhere other apart = get-insert nat_cmp_total map name x other ∙ ap (λ b. cond b (Some x) (get map other)) (unsigned_tied other name ∙ ne_eqb other name apart)

-- ---- the range

inside : (low high value : ℤ) → low ≤ℤ value → value ≤ℤ high → is_within low high value ≡ true
inside low high value above below =
    let first : int_le low value ≡ true = grind (arith, ints, above) in
    let second : int_le value high ≡ true = grind (arith, ints, below) in
    ap (λ b. b && int_le value high) first ∙ second

outside : (low high value : ℤ) → (value <ℤ low) ⊎ (high <ℤ value) → is_within low high value ≡ false
outside low high value (inl under) =
    let first : int_le low value ≡ false = grind (arith, ints, under) in
    ap (λ b. b && int_le value high) first
outside low high value (inr over) =
    let second : int_le value high ≡ false = grind (arith, ints, over) in
    ap (λ b. int_le low value && b) second ∙ elim (int_le low value) as (λ b. (b && false) ≡ false) [ true ↦ refl | false ↦ refl ]

-- ---- assignments

abbrev done : ℤ → Store → ℕ → Ranged → ℤ → Bool → Store × Outcome
done out store name component value within =
    assigned out (cond {A = Store × Bool} within (record store { ints = insert store.ints name (record component { value = value }) }, true) (store, false))

module _ (out : ℤ) (store : Store) (name : ℕ) (component : Ranged) (value : ℤ) (there : get store.ints name ≡ Some component) where
  does : assigned out (with_int store name value) ≡ done out store name component value (is_within component.low component.high value)
  does = ap (λ (found : Option Ranged). assigned out (with_found found store name value)) there

  pub assigns : component.low ≤ℤ value → value ≤ℤ component.high
      → (let did = assigned out (with_int store name value) in Assigns name value store did.0 × (did.1 ≡ Out out))
  assigns above below =
      let is : assigned out (with_int store name value) ≡ done out store name component value true = does ∙ ap (done out store name component value) (inside component.low component.high value above below) in
      let new : Ranged = record component { value = value } in
      let leaves : Assigns name value store (record store { ints = insert store.ints name new }) = record {
        component = component;
        there = there;
        assigned = here store.ints name new;
        others = elsewhere store.ints name new;
        bools = refl;
      } in
      subst (λ (did : Store × Outcome). Assigns name value store did.0 × (did.1 ≡ Out out)) (sym is) (leaves, refl)

  pub refuses : (value <ℤ component.low) ⊎ (component.high <ℤ value) → assigned out (with_int store name value) ≡ (store, Raised)
  refuses beyond = does ∙ ap (done out store name component value) (outside component.low component.high value beyond)

pub sets : (out : ℤ) (store : Store) (name : ℕ) (truth : Bool) → SetsBoolean name truth store (with_bool store name truth) × (◌≡◌ {A = Outcome} (Out out) (Out out))
sets out store name truth = (record { assigned = here store.bools name truth; others = elsewhere store.bools name truth; ints = refl }, refl)

-- ---- the out value

pub fits_is : (z : ℤ) → FitsSigned w64 z → fits_64 z ≡ true
fits_is z fits =
    let under : z ≤ℤ pos (2 ^ 63 - 1) = omega (arith, ints, fits) in
    let over : negsuc (2 ^ 63 - 1) ≤ℤ z = omega (arith, ints, fits) in
    inside (negsuc (2 ^ 63 - 1)) (pos (2 ^ 63 - 1)) z over under

pub fits_from : (z : ℤ) → fits_64 z ≡ true → FitsSigned w64 z
fits_from z is = fits_signed z is

abbrev put_out : Store → ℤ → Bool → Store × Outcome
put_out store value fits = (store, cond {A = Outcome} fits (Out value) Raised)

pub puts_out : (store : Store) (value : ℤ) → FitsSigned w64 value → put_out store value (fits_64 value) ≡ (store, Out value)
puts_out store value fits = ap (put_out store value) (fits_is value fits)

pub raises : (store : Store) (value : ℤ) → ¬ FitsSigned w64 value → put_out store value (fits_64 value) ≡ (store, Raised)
raises store value never =
    elim (fits_64 value) as (λ b. fits_64 value ≡ b → put_out store value b ≡ (store, Raised)) [ true ↦ (λ is. absurd (never (fits_from value is))) | false ↦ (λ is. refl) ] refl

-- ---- what each statement does

effect-by : (arg : ℤ) (statement : Stmt) (part : Stmt-F Stmt) (store : Store) (out : ℤ) → roll-Stmt part ≡ statement
    → effect_of arg statement store out ≡ effect_of_step arg (map-Stmt Stmt Effect (effect_of arg) part) store out
effect-by arg statement part store out rolls =
    ap (λ (s : Stmt). effect_of arg s store out) (sym rolls) ∙ ap (λ (e : Effect). e store out) (fold-roll-Stmt Effect (effect_of_step arg) part)

module _ (arg out : ℤ) (store : Store) where
  pub effect-Set : (name : ℕ) (expr : Expr) → effect_of arg (Set name expr) store out ≡ assigned out (with_int store name (value_of expr store arg out))
  effect-Set name expr = effect-by arg (Set name expr) (Stmt-F.Set name expr) store out (rolls-Set name expr)

  pub effect-Put : (name : ℕ) (test : Cond) → effect_of arg (Put name test) store out ≡ (with_bool store name (truth_of test store arg out), Out out)
  effect-Put name test = effect-by arg (Put name test) (Stmt-F.Put name test) store out (rolls-Put name test)

  pub effect-Out : (expr : Expr) → effect_of arg (PutOut expr) store out ≡ put_out store (value_of expr store arg out) (fits_64 (value_of expr store arg out))
  effect-Out expr = effect-by arg (PutOut expr) (Stmt-F.Out expr) store out (rolls-Out expr)

  pub effect-If : (test : Cond) (first second : Vec Stmt Global) → effect_of arg (If test first second) store out ≡ cond (truth_of test store arg out) (effects_of arg first.items store out) (effects_of arg second.items store out)
  effect-If test first second = effect-by arg (If test first second) (Stmt-F.If test first second) store out (rolls-If test first second)
