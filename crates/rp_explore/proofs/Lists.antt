-- Members of lists, and where they are.
use Rattle.std.proofs.Common.{◌≡◌, ℕ, zero, suc, ◌<◌, ◌⊎◌, List, [], ◌∷◌, ◌++◌, length, get_or, refl, sym, inl, inr, arith}
use Rattle.rp_base.specs.Sets.{Has}
use Rattle.rp_machine.proofs.Calling.{has_right, has_either}

-- what is at a place is there
pub has_at : {A : Type 0} (xs : List A) (i : ℕ) (d : A) → i < length xs → Has (get_or xs i d) xs
has_at [] i d lt = absurd (omega arith)
has_at (x ∷ xs) zero d lt = inl refl
has_at (x ∷ xs) (suc i) d lt = inr (has_at xs i d (omega arith))

-- and what is there is at some place
pub place_in : {A : Type 0} (xs : List A) (x d : A) → Has x xs → (i : ℕ) × (i < length xs) × (get_or xs i d ≡ x)
place_in [] x d h = absurd h
place_in (y ∷ ys) x d h = elim h [
  | inl same ↦ (0, omega arith, sym same)
  | inr rest ↦ let p = place_in ys x d rest in (suc p.0, omega (arith, p.1), p.2)
]

-- one more at the end
pub has_last : {A : Type 0} (x y : A) (xs : List A) → Has x (xs ++ y ∷ []) → Has x xs ⊎ (x ≡ y)
has_last x y xs h = elim (has_either x xs (y ∷ []) h) [
  | inl before ↦ inl before
  | inr last ↦ elim last [ inl same ↦ inr same | inr none ↦ absurd none ]
]

pub has_end : {A : Type 0} (y : A) (xs : List A) → Has y (xs ++ y ∷ [])
has_end y xs = has_right y xs (y ∷ []) (inl refl)
