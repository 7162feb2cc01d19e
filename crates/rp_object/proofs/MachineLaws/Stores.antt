-- Two states of the components of one object in which each value is the same are the same.
use Rattle.std.proofs.Common.{◌≡◌, ◌≤◌, ◌<◌, ℕ, ◌^◌, ℤ, pos, negsuc, Bool, true, false, ◌&&◌}
use Rattle.std.proofs.Common.{length, Option, Some, None, FitsSigned, w64, IsTrue, refl, sym, ◌∙◌}
use Rattle.std.proofs.Common.{ap, subst, arith, leb-true}
use Rattle.std.specs.Prelude.{is_some, option_map, unwrap_or, IfSome, int_le}
use Rattle.std.specs.FinMap.{get, len, same_map, nat_cmp-IsAntisymmetric}
use Rattle.std.proofs.lemmas.Cmp.{nat_cmp_total}
use Rattle.std.proofs.lemmas.Bool.{cases_lt}
use Rattle.std.proofs.lemmas.Option.{same_Some}
use Rattle.std.proofs.Math.Logic.{⊎_elim}
use lib.Signed.{mag}
use Rattle.rp_entry.specs.rp_body.specs.declared.components.Ranged.{Ranged}
use Rattle.rp_entry.specs.rp_body.specs.Store.{Store, int_value, bool_value, is_within}
use Rattle.rp_entry.specs.rp_body.specs.Ranges.{range_of, HasRangesOf, HasBoolsOf, IsInRange}
use Rattle.rp_object.specs.declared.program.ObjectDeclaration.{ObjectDeclaration}
use Rattle.rp_object.specs.Program.{EndsFit, DeclarationFits}

-- ---- values fit 64 signed bits

both : (a b : Bool) → (a && b) ≡ true → (a ≡ true) × (b ≡ true)
both true true e = (refl, refl)
both true false e = absurd (cc)
both false b e = absurd (cc)

at_most : (n : ℕ) (high : ℤ) → int_le (pos n) high ≡ true → n ≤ mag high
at_most n (pos m) e = leb-true n m e
at_most n (negsuc m) e = absurd (cc)

at_least : (low : ℤ) (n : ℕ) → int_le low (negsuc n) ≡ true → n ≤ mag low
at_least (pos m) n e = absurd (cc)
at_least (negsuc m) n e = leb-true n m e

between : (low high value : ℤ) → FitsSigned w64 low → FitsSigned w64 high
    → IsTrue (is_within low high value)
    → FitsSigned w64 value
between low high (pos n) p q within =
    let small : n < 2 ^ 63 =
    omega (
      arith,
      at_most n high (both (int_le low (pos n)) (int_le (pos n) high) within).1,
      q.sfits,
    ) in
    record { sfits = small }
between low high (negsuc n) p q within =
    let small : n < 2 ^ 63 =
    omega (
      arith,
      at_least low n (both (int_le low (negsuc n)) (int_le (negsuc n) high) within).0,
      p.sfits,
    ) in
    record { sfits = small }

zero_fits : FitsSigned w64 (pos 0)
zero_fits = let small : 0 < 2 ^ 63 = omega arith in record { sfits = small }

found_fits : (own found : Option Ranged)
    → IfSome own (λ c. FitsSigned w64 c.low × FitsSigned w64 c.high)
    → IfSome found (λ c. IsTrue (is_within c.low c.high c.value))
    → option_map range_of found ≡ option_map range_of own
    → FitsSigned w64 (unwrap_or (option_map (λ c. c.value) found) (pos 0))
found_fits own None ends within same = zero_fits
found_fits None (Some c) ends within same = absurd (cc)
found_fits (Some d) (Some c) ends within same =
    let range : range_of c ≡ range_of d = same_Some (range_of c) (range_of d) same in
    let low : d.low ≡ c.low = sym (ap (λ (r : ℤ × ℤ). r.0) range) in
    let high : d.high ≡ c.high = sym (ap (λ (r : ℤ × ℤ). r.1) range) in
    between c.low c.high c.value (subst (FitsSigned w64) low ends.0)
    (subst (FitsSigned w64) high ends.1) within

pub values_fit : (declared store : Store) → EndsFit declared → HasRangesOf declared store
    → IsInRange store → (name : ℕ)
    → FitsSigned w64 (int_value store name)
values_fit declared store ends same within name =
    found_fits (get declared.ints name) (get store.ints name) (ends name) (within name) (same name)

-- ---- whole numbers

same_ranged : (c d : Ranged) → range_of c ≡ range_of d → c.value ≡ d.value → c ≡ d
same_ranged c d range value = λ i. record { low = (range i).0; high = (range i).1; value = value i }

same_found : (one other : Option Ranged) → option_map range_of one ≡ option_map range_of other
    → unwrap_or (option_map (λ c. c.value) one) (pos 0) ≡ unwrap_or
    (option_map (λ c. c.value) other) (pos 0)
    → one ≡ other
same_found None None range value = refl
same_found None (Some d) range value = absurd (cc)
same_found (Some c) None range value = absurd (cc)
same_found (Some c) (Some d) range value =
    ap (λ (r : Ranged). Some r) (same_ranged c d (same_Some (range_of c) (range_of d) range) value)

mapped_none : (own found : Option Ranged) → is_some own ≡ false
    → option_map range_of found ≡ option_map range_of own
    → found ≡ None
mapped_none own None none same = refl
mapped_none None (Some c) none same = absurd (cc)
mapped_none (Some d) (Some c) none same = absurd (cc)

-- ---- Booleans

same_truth : (one other : Option Bool) → is_some one ≡ is_some other
    → unwrap_or one false ≡ unwrap_or other false
    → one ≡ other
same_truth None None there value = refl
same_truth None (Some b) there value = absurd (cc)
same_truth (Some a) None there value = absurd (cc)
same_truth (Some a) (Some b) there value = ap (λ (t : Bool). Some t) value

truth_none : (found : Option Bool) → is_some found ≡ false → found ≡ None
truth_none None none = refl
truth_none (Some b) none = absurd (cc)

-- a name that is not below the count is not there
not_there : (b : Bool) (name count : ℕ) → (b ≡ true → name < count) → count ≤ name → b ≡ false
not_there false name count below past = refl
not_there true name count below past = absurd (omega (arith, below refl, past))

-- what is named below the count is the same in both, and nothing else is there
by_name : {A : Type 0} (count name : ℕ) (one other : Option A) → (name < count → one ≡ other)
    → (count ≤ name → (one ≡ None) × (other ≡ None))
    → one ≡ other
by_name count name one other below past =
    ⊎_elim below (λ (p : count ≤ name). (past p).0 ∙ sym (past p).1) (cases_lt name count)

module _ (declared : ObjectDeclaration) (fits : DeclarationFits declared) (one other : Store) where
  pub same_ints : HasRangesOf declared.components one → HasRangesOf declared.components other
      → ((name : ℕ) → name < length declared.ints.items → int_value one name ≡ int_value other name)
      → one.ints ≡ other.ints
  same_ints first second values =
      same_map nat_cmp_total nat_cmp-IsAntisymmetric one.ints other.ints (λ name.
      let count = len declared.components.ints in
      let range = get declared.components.ints name in
      by_name count name (get one.ints name) (get other.ints name)
      (λ (below : name < count).
      same_found (get one.ints name) (get other.ints name) (first name ∙ sym (second name))
      (values name (omega (arith, below, fits.ints))))
      (λ (past : count ≤ name).
      let none = not_there (is_some range) name count (fits.numbered.ints name).0 past in (
        mapped_none range (get one.ints name) none (first name),
        mapped_none range (get other.ints name) none (second name),
      )))

  pub same_bools : HasBoolsOf declared.components one → HasBoolsOf declared.components other
      → ((name : ℕ) → name < length declared.bools.items
      → bool_value one name ≡ bool_value other name)
      → one.bools ≡ other.bools
  same_bools first second values =
      same_map nat_cmp_total nat_cmp-IsAntisymmetric one.bools other.bools (λ name.
      let count = len declared.components.bools in
      let is_there = is_some (get declared.components.bools name) in
      by_name count name (get one.bools name) (get other.bools name)
      (λ (below : name < count).
      same_truth (get one.bools name) (get other.bools name) (first name ∙ sym (second name))
      (values name (omega (arith, below, fits.bools))))
      (λ (past : count ≤ name).
      let none = not_there is_there name count (fits.numbered.bools name).0 past in (
        truth_none (get one.bools name) (first name ∙ none),
        truth_none (get other.bools name) (second name ∙ none),
      )))
