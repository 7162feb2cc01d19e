-- Numbers as the code passes and compares them, and the range of a component.
use Rattle.std.proofs.Common.{◌≡◌, ℤ, true, false, refl, sym, ◌∙◌, ap, ap₂, arith, int_le, int_lt, IsTrue, FitsSigned, w64, to_z, of_z}
use mir.Syntax.{w128}
use Rattle.std.proofs.lemmas.Bool.{and_left, and_right}
use Rattle.std.proofs.lemmas.Int.{ints, to_z-of_z}
use Rattle.rp_body.specs.declared.components.Ranged.{Ranged}
use Rattle.rp_body.specs.Store.{is_within}

-- in 64 bits
abbrev pub passed : ℤ → ℤ
passed z = to_z w64 (of_z w64 z)

-- in 128 bits
abbrev pub kept : ℤ → ℤ
kept z = to_z w128 (of_z w128 z)

wide : (z : ℤ) → FitsSigned w64 z → FitsSigned w128 z
wide z fits = record { sfits = omega (arith, fits.sfits) }

-- the code has widened a number to 128 bits
widened : (z wider : ℤ) → FitsSigned w64 z → wider ≡ passed z → kept wider ≡ z
widened z wider fits e = ap kept (e ∙ to_z-of_z w64 z fits) ∙ to_z-of_z w128 z (wide z fits)

not_up_to : (a b : ℤ) → int_lt b a ≡ true → int_le a b ≡ false
not_up_to a b below = grind (arith, ints)

up_to : (a b : ℤ) → int_lt b a ≡ false → int_le a b ≡ true
up_to a b below = grind (arith, ints)

narrow : (low high z : ℤ) → FitsSigned w64 low → FitsSigned w64 high → int_le low z ≡ true → int_le z high ≡ true → FitsSigned w64 z
narrow low high z low_fits high_fits above below = omega (arith, ints)

-- the code compares a value with the ends of a component's range, of which the first one that it
-- looks at is `end`
module _ (component : Ranged) (value end : ℤ) (fits : FitsSigned w128 value) where
  pub below_range : FitsSigned w64 component.low → end ≡ passed component.low → int_lt (kept value) (kept end) ≡ true → IsTrue (is_within component.low component.high value) → ⊥
  below_range low_fits same below within =
      let exact = ap₂ int_lt (to_z-of_z w128 value fits) (widened component.low end low_fits same) in
      let no = and_left (int_le component.low value) (int_le value component.high) (not_up_to component.low value (sym exact ∙ below)) in
      absurd (cc (within, no))

  pub above_range : FitsSigned w64 component.high → end ≡ passed component.high → int_lt (kept end) (kept value) ≡ true → IsTrue (is_within component.low component.high value) → ⊥
  above_range high_fits same above within =
      let exact = ap₂ int_lt (widened component.high end high_fits same) (to_z-of_z w128 value fits) in
      let no = and_right (int_le component.low value) (int_le value component.high) (not_up_to value component.high (sym exact ∙ above)) in
      absurd (cc (within, no))

-- a value that has passed both tests
pub record Passes (component : Ranged) (value bottom top : ℤ) : Type 0 where
  pub value_fits : FitsSigned w128 value
  pub low_fits : FitsSigned w64 component.low
  pub high_fits : FitsSigned w64 component.high
  pub bottom_is : bottom ≡ passed component.low
  pub top_is : top ≡ passed component.high
  pub not_below : int_lt (kept value) (kept bottom) ≡ false
  pub not_above : int_lt (kept top) (kept value) ≡ false

module _ {component : Ranged} {value bottom top : ℤ} (p : Passes component value bottom top) where
  from_low : int_le component.low value ≡ true
  from_low = up_to component.low value (sym (ap₂ int_lt (to_z-of_z w128 value p.value_fits) (widened component.low bottom p.low_fits p.bottom_is)) ∙ p.not_below)

  to_high : int_le value component.high ≡ true
  to_high = up_to value component.high (sym (ap₂ int_lt (widened component.high top p.high_fits p.top_is) (to_z-of_z w128 value p.value_fits)) ∙ p.not_above)

  pub in_range : IsTrue (is_within component.low component.high value)
  in_range = rw (from_low, to_high) refl

  same_value : passed (kept value) ≡ value
  same_value = ap passed (to_z-of_z w128 value p.value_fits) ∙ to_z-of_z w64 value (narrow component.low component.high value p.low_fits p.high_fits from_low to_high)

  pub written : ◌≡◌ {A = Ranged} (record { low = passed component.low; high = passed component.high; value = passed (kept value) }) (record component { value = value })
  written = rw (to_z-of_z w64 component.low p.low_fits, to_z-of_z w64 component.high p.high_fits, same_value) refl
