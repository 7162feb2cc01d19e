-- What is so of each number of a list, case by case.
use Rattle.std.proofs.Common.{◌≡◌, ℕ, zero, suc, ◌≤◌, List, [], ◌∷◌, Bool, true, drop, map, inl, inr, sym, ap, subst, ◌∙◌, arith}
use Rattle.std.specs.Prelude.{slice_get, unwrap_or}
use Rattle.std.specs.List.{list_all}
use Rattle.std.proofs.lemmas.Bool.{and_parts, cases_eq}
use Rattle.rp_base.specs.Sets.{Has}
use Rattle.rp_base.proofs.Members.{has_left, has_right}
use Rattle.rp_model.specs.rp_machine.specs.Replay.{one_to}

-- it is so of each of these numbers
abbrev pub AllOf : (ℕ → Type 0) → List ℕ → Type 0
AllOf P [] = Unit {0}
AllOf P (n ∷ rest) = P n × AllOf P rest

pub each_of : (P : ℕ → Type 0) (numbers : List ℕ) → AllOf P numbers → (n : ℕ) → Has n numbers → P n
each_of P [] all n has = absurd has
each_of P (first ∷ rest) all n has = elim has [ inl same ↦ subst P (sym same) all.0 | inr later ↦ each_of P rest all.1 n later ]

-- two functions have the same values at these numbers
abbrev pub AreSame : {A : Type 0} → (ℕ → A) → (ℕ → A) → List ℕ → Type 0
AreSame f g numbers = map f numbers ≡ map g numbers

first_same : {A : Type 0} (x y : A) (xs ys : List A) → x ∷ xs ≡ y ∷ ys → x ≡ y
first_same {A} x y xs ys is = ap (λ (l : List A). unwrap_or (slice_get l 0) x) is

rest_same : {A : Type 0} (x y : A) (xs ys : List A) → x ∷ xs ≡ y ∷ ys → xs ≡ ys
rest_same {A} x y xs ys is = ap (λ (l : List A). drop 1 l) is

pub same_at : {A : Type 0} (f g : ℕ → A) (numbers : List ℕ) → AreSame f g numbers → (n : ℕ) → Has n numbers → f n ≡ g n
same_at f g [] are n has = absurd has
same_at f g (first ∷ rest) are n has =
    elim has [
      | inl here ↦ ap f here ∙ first_same (f first) (g first) (map f rest) (map g rest) are ∙ sym (ap g here)
      | inr later ↦ same_at f g rest (rest_same (f first) (g first) (map f rest) (map g rest) are) n later
    ]

-- a test that all of these numbers pass
pub passed_by : (test : ℕ → Bool) (numbers : List ℕ) → list_all test numbers ≡ true → (n : ℕ) → Has n numbers → test n ≡ true
passed_by test [] all n has = absurd has
passed_by test (first ∷ rest) all n has =
    let both = and_parts _ _ all in
    elim has [ inl here ↦ ap test here ∙ both.0 | inr later ↦ passed_by test rest both.1 n later ]

pub one_to_has : (n k : ℕ) → 1 ≤ k → k ≤ n → Has k (one_to n)
one_to_has zero k low high = absurd (omega (arith, low, high))
one_to_has (suc n) k low high =
    elim (cases_eq k (suc n)) [
      | inl same ↦ has_right k (one_to n) (suc n ∷ []) (inl same)
      | inr other ↦ has_left k (one_to n) (suc n ∷ []) (one_to_has n k low (omega (arith, high, other)))
    ]
