-- Keys that are equal.
use Rattle.std.proofs.Common.{◌≡◌, ℕ, zero, suc, ◌+◌, ◌-◌, ◌<◌, ◌≤◌, Bool, true, false, ◌&&◌, if◌then◌else◌, nat_eq, List, length, get_or, set, map, inl, inr, sym, ◌∙◌, ap, refl, arith, get_or-set_other, get_or-set_same}
use Rattle.std.proofs.lemmas.Bool.{cases_lt}
use Rattle.std.proofs.lemmas.List.{ext_get_or}
use Rattle.rp_machine.specs.Replay.{one_to}
use Rattle.std.specs.Cmp.Lexicographic.{pointwise, bytes_decides}
use Rattle.rp_machine.proofs.Calling.{both_true}
use Rattle.rp_explore.specs.declared.key.Key.{Key}
use Rattle.rp_explore.specs.Keys.{AreEqual}
use Rattle.rp_explore.specs.contracts.key.KeyPartialEq.TheImpl.{eq-value}

-- the derived test is true exactly at equal keys
pub equal_keys : (one other : Key) → eq-value.it one other ≡ true → AreEqual one other
equal_keys one other e =
    let first = both_true (pointwise nat_eq one.lines.items other.lines.items) (pointwise nat_eq one.numbers other.numbers && (pointwise nat_eq one.occurrences other.occurrences && pointwise nat_eq one.allowed other.allowed)) e in
    let rest = both_true (pointwise nat_eq one.numbers other.numbers) (pointwise nat_eq one.occurrences other.occurrences && pointwise nat_eq one.allowed other.allowed) first.1 in
    let last = both_true (pointwise nat_eq one.occurrences other.occurrences) (pointwise nat_eq one.allowed other.allowed) rest.1 in
    record {
      lines = (bytes_decides one.lines.items other.lines.items).0 first.0;
      numbers = (bytes_decides one.numbers other.numbers).0 rest.0;
      occurrences = (bytes_decides one.occurrences other.occurrences).0 last.0;
      allowed = (bytes_decides one.allowed other.allowed).0 last.1;
    }

pub keys_equal : (one other : Key) → AreEqual one other → eq-value.it one other ≡ true
keys_equal one other same =
    let lines : pointwise nat_eq one.lines.items other.lines.items ≡ true = (bytes_decides one.lines.items other.lines.items).1 same.lines in
    let numbers : pointwise nat_eq one.numbers other.numbers ≡ true = (bytes_decides one.numbers other.numbers).1 same.numbers in
    let occurrences : pointwise nat_eq one.occurrences other.occurrences ≡ true = (bytes_decides one.occurrences other.occurrences).1 same.occurrences in
    let allowed : pointwise nat_eq one.allowed other.allowed ≡ true = (bytes_decides one.allowed other.allowed).1 same.allowed in
    ap (λ (b : Bool). b && (pointwise nat_eq one.numbers other.numbers && (pointwise nat_eq one.occurrences other.occurrences && pointwise nat_eq one.allowed other.allowed))) lines
    ∙ ap (λ (b : Bool). b && (pointwise nat_eq one.occurrences other.occurrences && pointwise nat_eq one.allowed other.allowed)) numbers
    ∙ ap (λ (b : Bool). b && pointwise nat_eq one.allowed other.allowed) occurrences
    ∙ allowed

-- ---- eight values, one for each task or source

module _ {A : Type 0} (d : A) where
  at_eight : (f : ℕ → A) (k : ℕ) → k < 8 → get_or (map f (one_to 8)) k d ≡ f (k + 1)
  at_eight f zero lt = refl
  at_eight f (suc zero) lt = refl
  at_eight f (suc (suc zero)) lt = refl
  at_eight f (suc (suc (suc zero))) lt = refl
  at_eight f (suc (suc (suc (suc zero)))) lt = refl
  at_eight f (suc (suc (suc (suc (suc zero))))) lt = refl
  at_eight f (suc (suc (suc (suc (suc (suc zero)))))) lt = refl
  at_eight f (suc (suc (suc (suc (suc (suc (suc zero))))))) lt = refl
  at_eight f (suc (suc (suc (suc (suc (suc (suc (suc k)))))))) lt = absurd (omega arith)

  -- eight values that are those of a function at 1 to 8
  pub eight : (f : ℕ → A) (xs : List A) → length xs ≡ 8 → ((k : ℕ) → k < 8 → get_or xs k d ≡ f (k + 1)) → xs ≡ map f (one_to 8)
  eight f xs size each = ext_get_or d xs (map f (one_to 8)) size (λ k lt. let below : k < 8 = omega (arith, size, lt) in each k below ∙ sym (at_eight f k below))

  -- equal lists of them give equal values
  pub eight_alike : (f g : ℕ → A) (k : ℕ) → 1 ≤ k → k ≤ 8 → map f (one_to 8) ≡ map g (one_to 8) → f k ≡ g k
  eight_alike f g k low high same =
      let back : k - 1 + 1 ≡ k = omega arith in
      ap f (sym back) ∙ sym (at_eight f (k - 1) (omega arith)) ∙ ap (λ (xs : List A). get_or xs (k - 1) d) same ∙ at_eight g (k - 1) (omega arith) ∙ ap g back

  -- and one more of them is written
  pub eight_more : (f : ℕ → A) (xs : List A) (p i : ℕ) (v : A) → i ≡ p → p < length xs → v ≡ f (p + 1) → ((k : ℕ) → k < p → get_or xs k d ≡ f (k + 1))
      → (k : ℕ) → k < p + 1 → get_or (set xs i v) k d ≡ f (k + 1)
  eight_more f xs p i v at lt is before k below = elim (cases_lt k p) [
    | inl less ↦ get_or-set_other xs i k v d (omega arith) ∙ before k less
    | inr rest ↦
        let same : k ≡ i = omega arith in
        ap (λ (j : ℕ). get_or (set xs i v) j d) same ∙ get_or-set_same xs i v d (omega arith) ∙ is ∙ ap (λ (j : ℕ). f (j + 1)) (omega arith)
  ]

  -- functions that are equal at 1 to 8 give equal lists
  pub eight_same : (f g : ℕ → A) → ((k : ℕ) → 1 ≤ k → k ≤ 8 → f k ≡ g k) → map f (one_to 8) ≡ map g (one_to 8)
  eight_same f g each = eight g (map f (one_to 8)) refl (λ k lt. at_eight f k lt ∙ each (k + 1) (omega arith) (omega arith))

-- 1 and 0 tell truths apart
abbrev pub bit : Bool → ℕ
bit b = if b then 1 else 0

pub one_truth : (a b : Bool) → bit a ≡ bit b → a ≡ b
one_truth true true e = refl
one_truth false false e = refl
one_truth true false e = absurd (omega (arith, e))
one_truth false true e = absurd (omega (arith, e))
