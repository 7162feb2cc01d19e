-- The numbers of a range that pass a test.
use Rattle.std.proofs.Common.{inl, inr, ◌≡◌, ◌∙◌, ℕ, zero, suc, ◌-◌, ◌<◌, ◌≤◌, Bool, true, false, cond, ◌&&◌, List, [], ◌∷◌, ◌++◌, arith, refl, sym, ap, subst, append-nil}
use Rattle.std.specs.Prelude.{filter, nat_le}
use Rattle.std.proofs.lemmas.Bool.Decides.{nat_tests}
use Rattle.std.proofs.str.Laws.{order}
use Rattle.rp_run.specs.rp_machine.specs.Replay.{one_to}
use Rattle.rp_run.specs.Output.{from_to}
use Rattle.rp_run.proofs.Among.{filter-following}

from_to_next : (first n : ℕ) (b : Bool) → nat_le first (suc n) ≡ b → from_to first (suc n) ≡ from_to first n ++ cond b (suc n ∷ []) []
from_to_next first n b is =
    filter-following (nat_le first) (one_to n) (suc n) ∙ ap (λ (c : Bool). from_to first n ++ cond c (suc n ∷ []) []) is

-- some number is in the list
abbrev pub IsFilled : List ℕ → Type 0
IsFilled [] = ⊥
IsFilled (number ∷ rest) = Unit {0}

filled_before : (xs ys : List ℕ) → IsFilled xs → IsFilled (xs ++ ys)
filled_before [] ys filled = absurd filled
filled_before (x ∷ xs) ys filled = tt

filled_after : (xs : List ℕ) (y : ℕ) → IsFilled (xs ++ y ∷ [])
filled_after [] y = tt
filled_after (x ∷ xs) y = tt

module _ (test : ℕ → Bool) where
  -- one number more
  next : (first n : ℕ) (b c : Bool) → nat_le first (suc n) ≡ b → test (suc n) ≡ c
      → filter test (from_to first (suc n)) ≡ filter test (from_to first n) ++ cond (b && c) (suc n ∷ []) []
  next first n true c from is =
      ap (filter test) (from_to_next first n true from)
      ∙ filter-following test (from_to first n) (suc n)
      ∙ ap (λ (b : Bool). filter test (from_to first n) ++ cond b (suc n ∷ []) []) is
  next first n false c from is =
      ap (filter test) (from_to_next first n false from ∙ append-nil (from_to first n)) ∙ sym (append-nil (filter test (from_to first n)))

  next_is : (first n : ℕ) (b : Bool) → (nat_le first (suc n) && test (suc n)) ≡ b
      → filter test (from_to first (suc n)) ≡ filter test (from_to first n) ++ cond b (suc n ∷ []) []
  next_is first n b is =
      next first n (nat_le first (suc n)) (test (suc n)) refl refl ∙ ap (λ (c : Bool). filter test (from_to first n) ++ cond c (suc n ∷ []) []) is

  -- one that does not pass
  next_none : (first n : ℕ) → (first ≤ suc n → test (suc n) ≡ false) → filter test (from_to first (suc n)) ≡ filter test (from_to first n)
  next_none first n fails =
      let none : (nat_le first (suc n) && test (suc n)) ≡ false = grind (arith, nat_tests, fails) in
      next_is first n false none ∙ append-nil (filter test (from_to first n))

  -- those in a row that do not pass
  pub skipped : (first low high : ℕ) → low ≤ high → ((m : ℕ) → first ≤ m → low < m → m ≤ high → test m ≡ false)
      → filter test (from_to first high) ≡ filter test (from_to first low)
  skipped first low zero above fails =
      let here : zero ≡ low = omega arith in
      ap (λ (n : ℕ). filter test (from_to first n)) here
  skipped first low (suc n) above fails =
      elim (order n low) [
        | inl below ↦ (let here : suc n ≡ low = omega arith in ap (λ (k : ℕ). filter test (from_to first k)) here)
        | inr within ↦
            next_none first n (λ from. fails (suc n) from (omega arith) (omega arith))
            ∙ skipped first low n within (λ m from after before. fails m from after (omega arith))
      ]

  -- none from a number to a lower one
  pub none_from : (first last : ℕ) → last < first → filter test (from_to first last) ≡ []
  none_from first zero below = refl
  none_from first (suc n) below =
      next_none first n (λ from. absurd (omega arith)) ∙ none_from first n (omega arith)

  -- one that passes
  pub one_passes : (first number : ℕ) → 1 ≤ number → first ≤ number → test number ≡ true
      → filter test (from_to first number) ≡ filter test (from_to first (number - 1)) ++ number ∷ []
  one_passes first zero one from passes = absurd (omega arith)
  one_passes first (suc n) one from passes =
      let here : suc n - 1 ≡ n = omega arith in
      let all : (nat_le first (suc n) && test (suc n)) ≡ true = grind (arith, nat_tests, passes, from) in
      next_is first n true all ∙ sym (ap (λ (k : ℕ). filter test (from_to first k) ++ suc n ∷ []) here)

  -- the range may begin at the first number that passes
  pub begins_at : (first least last : ℕ) → first ≤ least → ((m : ℕ) → first ≤ m → m < least → test m ≡ false)
      → filter test (from_to first last) ≡ filter test (from_to least last)
  begins_at first least zero from fails = refl
  begins_at first least (suc n) from fails =
      let same : (nat_le first (suc n) && test (suc n)) ≡ (nat_le least (suc n) && test (suc n)) = grind (arith, nat_tests, fails (suc n), from) in
      next_is first n (nat_le least (suc n) && test (suc n)) same
      ∙ ap (λ (l : List ℕ). l ++ cond (nat_le least (suc n) && test (suc n)) (suc n ∷ []) []) (begins_at first least n from fails)
      ∙ sym (next_is least n (nat_le least (suc n) && test (suc n)) refl)

  -- one passes
  pub some_pass : (first last : ℕ) → 1 ≤ first → first ≤ last → test first ≡ true → IsFilled (filter test (from_to first last))
  some_pass first zero one within passes = absurd (omega arith)
  some_pass first (suc n) one within passes =
      elim (order n first) [
        | inl below ↦
            (let here : first ≡ suc n = omega arith in
            let last : test (suc n) ≡ true = sym (ap test here) ∙ passes in
            let all : (nat_le first (suc n) && test (suc n)) ≡ true = grind (arith, nat_tests, last, within) in
            let is = next_is first n true all in
            subst (λ (l : List ℕ). IsFilled l) (sym is) (filled_after (filter test (from_to first n)) (suc n)))
        | inr later ↦
            (let is = next_is first n (nat_le first (suc n) && test (suc n)) refl in
            subst (λ (l : List ℕ). IsFilled l) (sym is)
            (filled_before (filter test (from_to first n)) (cond (nat_le first (suc n) && test (suc n)) (suc n ∷ []) []) (some_pass first n one later passes)))
      ]
