-- What the code adds or subtracts is the exact value, where both sides have few enough nodes.
use Rattle.std.proofs.Common.{◌≡◌, ◌≤◌, ◌+◌, ◌*◌, ◌^◌, ℕ, ℤ, ◌+ℤ◌, ◌-ℤ◌, ◌∙◌, ap₂, arith, unsigned_abs, FitsSigned, w64}
use mir.Syntax.{w128}
use Rattle.std.proofs.lemmas.Int.{ints, to_z-of_z, fits_signed_from_abs}
use Rattle.rp_body.specs.declared.expression.Expr.{Expr}
use Rattle.rp_body.specs.Store.{Store}
use Rattle.rp_body.specs.Check.{expr_nodes}
use Rattle.rp_body.specs.Expressions.{value_of}
use Rattle.rp_body.proofs.Passing.{passed, kept}

-- the code has computed x and y for two expressions
pub record Sides (arg out : ℤ) (store : Store) (first second : Expr) (x y : ℤ) : Type 0 where
  pub arg_fits : FitsSigned w64 arg
  pub out_fits : FitsSigned w64 out
  pub few : expr_nodes first + expr_nodes second ≤ 32
  pub first_is : x ≡ value_of first store (passed arg) (passed out)
  pub first_bounded : unsigned_abs x ≤ expr_nodes first * 2 ^ 63
  pub second_is : y ≡ value_of second store (passed arg) (passed out)
  pub second_bounded : unsigned_abs y ≤ expr_nodes second * 2 ^ 63

small : (z : ℤ) (n : ℕ) → unsigned_abs z ≤ n * 2 ^ 63 → n ≤ 32 → FitsSigned w128 z
small z n bounded few = fits_signed_from_abs w128 z (omega arith)

same : (z : ℤ) (n : ℕ) → unsigned_abs z ≤ n * 2 ^ 63 → n ≤ 32 → kept z ≡ z
same z n bounded few = to_z-of_z w128 z (small z n bounded few)

sum_bounded : (x y : ℤ) (m n : ℕ) → unsigned_abs x ≤ m * 2 ^ 63 → unsigned_abs y ≤ n * 2 ^ 63 → unsigned_abs (x +ℤ y) ≤ (m + n) * 2 ^ 63
sum_bounded x y m n h k = omega (arith, ints)

difference_bounded : (x y : ℤ) (m n : ℕ) → unsigned_abs x ≤ m * 2 ^ 63 → unsigned_abs y ≤ n * 2 ^ 63 → unsigned_abs (x -ℤ y) ≤ (m + n) * 2 ^ 63
difference_bounded x y m n h k = omega (arith, ints)

module _ {arg out : ℤ} {store : Store} {first second : Expr} {x y : ℤ} (s : Sides arg out store first second x y) where
  kept_first : kept x ≡ x
  kept_first = same x (expr_nodes first) s.first_bounded (omega (arith, s.few))

  kept_second : kept y ≡ y
  kept_second = same y (expr_nodes second) s.second_bounded (omega (arith, s.few))

  first_exact : x ≡ value_of first store arg out
  first_exact = s.first_is ∙ ap₂ (λ a o. value_of first store a o) (to_z-of_z w64 arg s.arg_fits) (to_z-of_z w64 out s.out_fits)

  second_exact : y ≡ value_of second store arg out
  second_exact = s.second_is ∙ ap₂ (λ a o. value_of second store a o) (to_z-of_z w64 arg s.arg_fits) (to_z-of_z w64 out s.out_fits)

  pub sum_exact : kept (kept x +ℤ kept y) ≡ value_of first store arg out +ℤ value_of second store arg out
  sum_exact =
      ap₂ (λ a b. kept (a +ℤ b)) kept_first kept_second
      ∙ same (x +ℤ y) (expr_nodes first + expr_nodes second) (sum_bounded x y (expr_nodes first) (expr_nodes second) s.first_bounded s.second_bounded) s.few
      ∙ ap₂ (λ a b. a +ℤ b) first_exact second_exact

  pub difference_exact : kept (kept x -ℤ kept y) ≡ value_of first store arg out -ℤ value_of second store arg out
  difference_exact =
      ap₂ (λ a b. kept (a -ℤ b)) kept_first kept_second
      ∙ same (x -ℤ y) (expr_nodes first + expr_nodes second) (difference_bounded x y (expr_nodes first) (expr_nodes second) s.first_bounded s.second_bounded) s.few
      ∙ ap₂ (λ a b. a -ℤ b) first_exact second_exact
