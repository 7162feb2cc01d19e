-- Items of lists, by their places.
use Rattle.std.proofs.Common.{inl, inr, ◌≡◌, ◌∙◌, ℕ, zero, suc, ◌+◌, ◌<◌, Option, Some, List, [], ◌∷◌, ◌++◌, length, map, arith, refl, sym, ap}
use Rattle.std.specs.Prelude.{◌⊎◌, slice_get, unwrap_or}

-- an item of the first of two lists joined
pub get_left : {A : Type 0} (xs ys : List A) (k : ℕ) → k < length xs → slice_get (xs ++ ys) k ≡ slice_get xs k
get_left [] ys k below = absurd (omega (arith, below))
get_left (x ∷ xs) ys zero below = refl
get_left (x ∷ xs) ys (suc k) below = get_left xs ys k (omega (arith, below))

-- an item of two lists joined is one of either
pub get_split : {A : Type 0} (xs ys : List A) (k : ℕ) (a : A) → slice_get (xs ++ ys) k ≡ Some a → (slice_get xs k ≡ Some a) ⊎ ((j : ℕ) × (k ≡ length xs + j) × (slice_get ys j ≡ Some a))
get_split [] ys k a e = inr (k, omega arith, e)
get_split (x ∷ xs) ys zero a e = inl e
get_split (x ∷ xs) ys (suc k) a e = elim (get_split xs ys k a e) [ inl before ↦ inl before | inr later ↦ inr (later.0, omega (arith, later.1), later.2) ]

-- an item at the end
pub get_last : {A : Type 0} (xs : List A) (y : A) → slice_get (xs ++ y ∷ []) (length xs) ≡ Some y
get_last [] y = refl
get_last (x ∷ xs) y = let e : length (x ∷ xs) ≡ suc (length xs) = omega arith in ap (slice_get (x ∷ (xs ++ y ∷ []))) e ∙ get_last xs y

pub some_is : {A : Type 0} {x y : A} → Some x ≡ Some y → x ≡ y
some_is {A} {x} e = ap (λ (o : Option A). unwrap_or o x) e

-- the only item of a list
pub only_item : {A : Type 0} (x y : A) (j : ℕ) → slice_get (x ∷ []) j ≡ Some y → y ≡ x
only_item x y zero e = sym (some_is e)
only_item x y (suc j) e = absurd (cc)

-- an item of a mapped list
pub get_mapped : {A B : Type 0} (f : A → B) (xs : List A) (j : ℕ) (y : B) → slice_get (map f xs) j ≡ Some y → (x : A) × (slice_get xs j ≡ Some x) × (y ≡ f x)
get_mapped f [] j y e = absurd (cc)
get_mapped f (x ∷ xs) zero y e = (x, refl, sym (some_is e))
get_mapped f (x ∷ xs) (suc j) y e = get_mapped f xs j y e
