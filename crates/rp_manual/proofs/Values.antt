-- The value of an expression and the truth of a condition, by the words.
use Rattle.std.proofs.Common.{◌≡◌, ◌⊎◌, inl, inr, ℤ, pos, ◌+ℤ◌, ◌-ℤ◌, ◌<ℤ◌, ◌≤ℤ◌, Bool, true, false, not, ◌&&◌, ◌||◌, Option, Some, None, refl, sym, ◌∙◌, ap, ap₂, subst, arith, unwrap_or}
use Rattle.std.specs.Prelude.{◌↔◌, int_lt, int_le, MatchOption}
use Rattle.std.specs.Option.{option_map}
use Rattle.std.specs.Ordering.{int_eq}
use Rattle.std.specs.Cmp.{signed_Decides}
use Rattle.std.specs.FinMap.{get}
use Rattle.std.proofs.lemmas.Int.{ints}
use Rattle.std.proofs.lemmas.Bool.{false≢true}
use Rattle.rp_object.specs.rp_body.specs.declared.components.Ranged.{Ranged}
use Rattle.rp_object.specs.rp_body.specs.declared.expression.Expr.{Expr}
use Rattle.rp_object.specs.rp_body.specs.declared.expression.Expr.TheVariants.{Number, Arg, Out, Int, Add', Sub'}
use Rattle.rp_object.specs.rp_body.specs.declared.expression.Cond.{Cond}
use Rattle.rp_object.specs.rp_body.specs.declared.expression.Cond.TheVariants.{Constant, Bool as Named, Less}
use Rattle.rp_object.specs.rp_body.specs.declared.expression.Cond.TheVariants.{LessOrEqual, Equal, Not', And', Or'}
use Rattle.rp_object.specs.rp_body.specs.Store.{Store}
use Rattle.rp_object.specs.rp_body.specs.Expressions.{value_of, truth_of}
use Rattle.rp_manual.specs.Expressions.{HasValue, OfBoth, IsMet}

-- ---- values

abbrev value_in : Option Ranged → ℤ
value_in found = unwrap_or (option_map (λ (c : Ranged). c.value) found) (pos 0)

found_has : (found : Option Ranged) → MatchOption found (value_in found ≡ pos 0) (λ c. value_in found ≡ c.value)
found_has None = refl
found_has (Some c) = refl

found_is : (found : Option Ranged) (value : ℤ) → MatchOption found (value ≡ pos 0) (λ c. value ≡ c.value) → value_in found ≡ value
found_is None value is = sym is
found_is (Some c) value is = sym is

module _ (store : Store) (arg out : ℤ) where
  pub has_value : (e : Expr) → HasValue e store arg out (value_of e store arg out)
  has_value (Number n) = refl
  has_value Arg = refl
  has_value Out = refl
  has_value (Int name) = found_has (get store.ints name)
  has_value (Add' p a q b) = (value_of a store arg out, value_of b store arg out, (has_value a, has_value b, refl))
  has_value (Sub' p a q b) = (value_of a store arg out, value_of b store arg out, (has_value a, has_value b, refl))

  pub only_value : (e : Expr) (value : ℤ) → HasValue e store arg out value → value_of e store arg out ≡ value
  only_value (Number n) value is = sym is
  only_value Arg value is = sym is
  only_value Out value is = sym is
  only_value (Int name) value is = found_is (get store.ints name) value is
  only_value (Add' p a q b) value (x, y, (left, right, is)) = ap₂ (λ u v. u +ℤ v) (only_value a x left) (only_value b y right) ∙ sym is
  only_value (Sub' p a q b) value (x, y, (left, right, is)) = ap₂ (λ u v. u -ℤ v) (only_value a x left) (only_value b y right) ∙ sym is

  -- ---- conditions

  both : (IsSo : ℤ → ℤ → Type 0) (a b : Expr) → OfBoth IsSo a b store arg out ↔ IsSo (value_of a store arg out) (value_of b store arg out)
  both IsSo a b = (
    (λ has.
        let left = only_value a has.0 has.2.0 in
        let right = only_value b has.1 has.2.1 in
        subst (λ x. IsSo x (value_of b store arg out)) (sym left) (subst (λ y. IsSo has.0 y) (sym right) has.2.2)),
    (λ so. (value_of a store arg out, value_of b store arg out, (has_value a, has_value b, so))),
  )

  less_is : (x y : ℤ) → x <ℤ y ↔ (int_lt x y ≡ true)
  less_is x y = ((λ h. grind (arith, ints, h)), (λ h. grind (arith, ints, h)))

  at_most_is : (x y : ℤ) → x ≤ℤ y ↔ (int_le x y ≡ true)
  at_most_is x y = ((λ h. grind (arith, ints, h)), (λ h. grind (arith, ints, h)))

  equal_is : (x y : ℤ) → (x ≡ y) ↔ (int_eq x y ≡ true)
  equal_is x y = ((λ h. grind (arith, signed_Decides, h)), (λ h. grind (arith, signed_Decides, h)))

  named_is : (found : Option Bool) → (found ≡ Some true) ↔ (unwrap_or found false ≡ true)
  named_is None = ((λ is. absurd (cc)), (λ is. absurd (false≢true is)))
  named_is (Some b) = ((λ is. ap (λ (o : Option Bool). unwrap_or o false) is), (λ is. ap Some is))

  not_is : (A : Type 0) (b : Bool) → A ↔ (b ≡ true) → (¬ A) ↔ (not b ≡ true)
  not_is A true is = ((λ never. absurd (never (is.1 refl))), (λ wrong. absurd (false≢true wrong)))
  not_is A false is = ((λ never. refl), (λ right a. false≢true (is.0 a)))

  and_is : (A B : Type 0) (a b : Bool) → A ↔ (a ≡ true) → B ↔ (b ≡ true) → (A × B) ↔ ((a && b) ≡ true)
  and_is A B true b left right = ((λ has. right.0 has.1), (λ is. (left.1 refl, right.1 is)))
  and_is A B false b left right = ((λ has. left.0 has.0), (λ is. absurd (false≢true is)))

  or_is : (A B : Type 0) (a b : Bool) → A ↔ (a ≡ true) → B ↔ (b ≡ true) → (A ⊎ B) ↔ ((a || b) ≡ true)
  or_is A B true b left right = ((λ has. refl), (λ is. inl (left.1 refl)))
  or_is A B false b left right = ((λ has. elim has [ inl h ↦ absurd (false≢true (left.0 h)) | inr h ↦ right.0 h ]), (λ is. inr (right.1 is)))

  through : {A B C : Type 0} → A ↔ B → B ↔ C → A ↔ C
  through one two = ((λ a. two.0 (one.0 a)), (λ c. one.1 (two.1 c)))

  pub is_met : (c : Cond) → IsMet c store arg out ↔ (truth_of c store arg out ≡ true)
  is_met (Constant b) = ((λ is. is), (λ is. is))
  is_met (Named name) = named_is (get store.bools name)
  is_met (Less a b) = through (both (λ x y. x <ℤ y) a b) (less_is (value_of a store arg out) (value_of b store arg out))
  is_met (LessOrEqual a b) = through (both (λ x y. x ≤ℤ y) a b) (at_most_is (value_of a store arg out) (value_of b store arg out))
  is_met (Equal a b) = through (both (λ x y. x ≡ y) a b) (equal_is (value_of a store arg out) (value_of b store arg out))
  is_met (Not' p c) = not_is (IsMet c store arg out) (truth_of c store arg out) (is_met c)
  is_met (And' p c q d) = and_is (IsMet c store arg out) (IsMet d store arg out) (truth_of c store arg out) (truth_of d store arg out) (is_met c) (is_met d)
  is_met (Or' p c q d) = or_is (IsMet c store arg out) (IsMet d store arg out) (truth_of c store arg out) (truth_of d store arg out) (is_met c) (is_met d)
