-- Two sets within 1 to n that have more than n members together share one.
use Rattle.std.proofs.Common.{◌≡◌, ◌≢◌, ℕ, zero, suc, ◌+◌, ◌<◌, ◌≤◌, ◌⊎◌, List, [], ◌∷◌, length, refl, subst, inl, inr, arith}
use Rattle.std.proofs.lemmas.Bool.{cases_eq}
use Rattle.rp_base.specs.Sets.{Has, IsSet}

-- the set ys is the set xs without k
record IsWithout (k : ℕ) (xs ys : List ℕ) : Type 0 where
  distinct : IsSet ys
  one_less : length xs ≤ length ys + 1
  members : (y : ℕ) → Has y ys → Has y xs × (y ≢ k)
  absent : ¬ Has k xs → length xs ≡ length ys

without : (k : ℕ) (xs : List ℕ) → IsSet xs → (ys : List ℕ) × IsWithout k xs ys
without k [] set = ([], record { distinct = tt; one_less = omega arith; members = λ y h. absurd h; absent = λ _. refl })
without k (x ∷ xs) set =
    elim (cases_eq k x) [
      | inl same ↦ (
        xs,
        record {
          distinct = set.1;
          one_less = omega arith;
          members = λ y h. (inr h, λ e. set.0 (subst (λ (z : ℕ). Has z xs) (cc) h));
          absent = λ none. absurd (none (inl same));
        },
      )
      | inr other ↦
          let rest = without k xs set.1 in (
            x ∷ rest.0,
            record {
              distinct = (λ h. set.0 (rest.1.members x h).0, rest.1.distinct);
              one_less = omega (arith, rest.1.one_less);
              members = λ y h. elim h [ inl e ↦ (inl e, λ z. other (cc)) | inr h ↦ (inr (rest.1.members y h).0, (rest.1.members y h).1) ];
              absent = λ none. omega (arith, rest.1.absent (λ h. none (inr h)));
            },
          )
    ]

-- a number is in a list or is not
has_or_not : (k : ℕ) (xs : List ℕ) → Has k xs ⊎ (¬ Has k xs)
has_or_not k [] = inr (λ h. h)
has_or_not k (x ∷ xs) =
    elim (cases_eq k x) [
      | inl same ↦ inl (inl same)
      | inr other ↦ elim (has_or_not k xs) [
        | inl h ↦ inl (inr h)
        | inr none ↦ inr (λ h. elim h [ inl same ↦ other same | inr h ↦ none h ])
      ]
    ]

abbrev Within : ℕ → List ℕ → Type 0
Within n xs = (x : ℕ) → Has x xs → (1 ≤ x) × (x ≤ n)

within_fewer : (n : ℕ) (xs ys : List ℕ) → IsWithout (suc n) xs ys → Within (suc n) xs → Within n ys
within_fewer n xs ys w inside x h =
    let old = inside x (w.members x h).0 in
    let differs : x ≢ suc n = (w.members x h).1 in
    (old.0, omega arith)

pub sets_intersect : (n : ℕ) (xs ys : List ℕ) → IsSet xs → IsSet ys → Within n xs → Within n ys → n < length xs + length ys → (x : ℕ) × Has x xs × Has x ys
sets_intersect zero [] [] s t inside within more = absurd (omega arith)
sets_intersect zero [] (y ∷ ys) s t inside within more = let bad = within y (inl refl) in absurd (omega arith)
sets_intersect zero (x ∷ xs) ys s t inside within more = let bad = inside x (inl refl) in absurd (omega arith)
sets_intersect (suc n) xs ys s t inside within more =
    let left = without (suc n) xs s in
    let right = without (suc n) ys t in
    let fewer : n < length left.0 + length right.0 → (x : ℕ) × Has x xs × Has x ys = λ enough.
    let both = sets_intersect n left.0 right.0 left.1.distinct right.1.distinct (within_fewer n xs left.0 left.1 inside) (within_fewer n ys right.0 right.1 within) enough in
    (both.0, (left.1.members both.0 both.1).0, (right.1.members both.0 both.2).0) in
    elim (has_or_not (suc n) xs) [
      | inr none ↦ fewer (omega (arith, left.1.absent none, right.1.one_less))
      | inl first ↦ elim (has_or_not (suc n) ys) [
        | inr none ↦ fewer (omega (arith, right.1.absent none, left.1.one_less))
        | inl second ↦ (suc n, first, second)
      ]
    ]
