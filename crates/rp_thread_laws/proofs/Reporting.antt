-- What is known with a report.
use Rattle.std.proofs.Common.{◌≡◌, ℕ, zero, suc, ◌+◌, ◌≤◌, max, nat_lt, Bool, true, false, List, [], ◌∷◌, ◌++◌, length, take, drop, refl, ap, ◌∙◌, arith}
use Rattle.std.proofs.lemmas.Bool.{ltb-true, ltb-false}
use Rattle.std.specs.Prelude.{if◌then◌else◌}

pub long_of : {A : Type 0} (n : ℕ) (xs : List A) → n ≤ length xs → length (take n xs) ≡ n
long_of zero xs fits = refl
long_of (suc n) [] fits = absurd (omega (arith, fits))
long_of (suc n) (x ∷ xs) fits = ap suc (long_of n xs (omega (arith, fits)))

one_more : (m n : ℕ) → suc (m + n) ≡ suc m + n
one_more m n = omega arith

pub taken_on : {A : Type 0} (m n : ℕ) (xs : List A) → take m xs ++ take n (drop m xs) ≡ take (m + n) xs
taken_on zero n xs = ap (λ k. take k xs) (omega arith)
taken_on (suc m) zero [] = ap (λ k. take k []) (one_more m zero)
taken_on (suc m) (suc n) [] = ap (λ k. take k []) (one_more m (suc n))
taken_on (suc m) n (x ∷ xs) = ap (λ l. x ∷ l) (taken_on m n xs) ∙ ap (λ k. take k (x ∷ xs)) (one_more m n)

pub taken_twice : {A : Type 0} (m n : ℕ) (xs : List A) → m ≤ n → take m (take n xs) ≡ take m xs
taken_twice zero n xs small = refl
taken_twice (suc m) zero xs small = absurd (omega (arith, small))
taken_twice (suc m) (suc n) [] small = refl
taken_twice (suc m) (suc n) (x ∷ xs) small = ap (λ l. x ∷ l) (taken_twice m n xs (omega (arith, small)))

module _ {A : Type 0} (order : List A) (m k : ℕ) where
  longer_if : (more : Bool) → nat_lt m k ≡ more → (if more then take k order else take m order) ≡ take (max m k) order
  longer_if false is = ap (λ n. take n order) (omega (arith, ltb-false m k is))
  longer_if true is = ap (λ n. take n order) (omega (arith, ltb-true m k is))

  -- the longer of the first m and the first k elements
  pub longer : m ≤ length order → k ≤ length order → (if nat_lt (length (take m order)) (length (take k order)) then take k order else take m order) ≡ take (max m k) order
  longer one other =
      ap (λ (n : ℕ). if nat_lt n (length (take k order)) then take k order else take m order) (long_of m order one)
      ∙ ap (λ (n : ℕ). if nat_lt m n then take k order else take m order) (long_of k order other)
      ∙ longer_if (nat_lt m k) refl
