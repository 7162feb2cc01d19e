-- What is at a place of a list, and lists of which one is a prefix of the other.
use Rattle.std.proofs.Common.{◌≡◌, ◌⊎◌, ℕ, zero, suc, ◌+◌, Option, Some, List, [], ◌∷◌, ◌++◌, length, take, drop, slice_get, inl, inr, refl, ap, subst, arith}
use Rattle.std.specs.Prelude.{unwrap_or}
use Rattle.std.proofs.lemmas.Option.{none-some}

pub at_appended : {A : Type 0} (xs ys : List A) (k : ℕ) (a : A) → slice_get (xs ++ ys) k ≡ Some a
    → (slice_get xs k ≡ Some a) ⊎ ((j : ℕ) × (k ≡ length xs + j) × (slice_get ys j ≡ Some a))
at_appended [] ys k a is = inr (k, omega arith, is)
at_appended (x ∷ xs) ys zero a is = inl is
at_appended (x ∷ xs) ys (suc k) a is = elim (at_appended xs ys k a is) [
  | inl front ↦ inl front
  | inr back ↦ inr (back.0, (let e = back.1 in omega (arith, e)), back.2)
]

pub at_taken : {A : Type 0} (n : ℕ) (xs : List A) (k : ℕ) (a : A) → slice_get (take n xs) k ≡ Some a → slice_get xs k ≡ Some a
at_taken zero xs k a is = absurd (none-some a is)
at_taken (suc n) [] k a is = is
at_taken (suc n) (x ∷ xs) zero a is = is
at_taken (suc n) (x ∷ xs) (suc k) a is = at_taken n xs k a is

pub at_dropped : {A : Type 0} (n : ℕ) (xs : List A) (k : ℕ) (a : A) → slice_get (drop n xs) k ≡ Some a → slice_get xs (n + k) ≡ Some a
at_dropped {A = A} zero xs k a is = subst (λ (j : ℕ). slice_get xs j ≡ Some a) (let e : k ≡ 0 + k = omega arith in e) is
at_dropped {A = A} (suc n) [] k a is = is
at_dropped {A = A} (suc n) (x ∷ xs) k a is = subst (λ (j : ℕ). slice_get {X = A} (x ∷ xs) j ≡ Some a) (let e : suc (n + k) ≡ suc n + k = omega arith in e) (at_dropped n xs k a is)

pub begins_by : {A : Type 0} (xs ys : List A) → ((k : ℕ) (a : A) → slice_get xs k ≡ Some a → slice_get ys k ≡ Some a) → (rest : List A) × (ys ≡ xs ++ rest)
begins_by {A = A} [] ys all = (ys, refl)
begins_by {A = A} (x ∷ xs) [] all = absurd (none-some x (all zero x refl))
begins_by {A = A} (x ∷ xs) (y ∷ ys) all =
    let same : y ≡ x = ap (λ (o : Option A). unwrap_or o x) (all zero x refl) in
    let begins = begins_by xs ys (λ k. all (suc k)) in
    (begins.0, λ i. same i ∷ begins.1 i)
