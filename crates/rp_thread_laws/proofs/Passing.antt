-- A list without its element at a place.
use Rattle.std.proofs.Common.{◌≡◌, ℕ, zero, suc, ◌<◌, Some, List, [], ◌∷◌, ◌++◌, length, refl, ap, arith}
use Rattle.std.specs.List.{slice_get, remove}

-- The element at a place, with what is before and after it.
pub record Split {A : Type 0} (xs : List A) (place : ℕ) : Type 0 where
  pub before : List A
  pub after : List A
  pub item : A
  pub gets : slice_get xs place ≡ Some item
  pub whole : xs ≡ before ++ item ∷ after
  pub left : remove xs place ≡ before ++ after

pub split_at : {A : Type 0} (xs : List A) (place : ℕ) → place < length xs → Split xs place
split_at [] place within = absurd (omega (arith, within))
split_at (x ∷ xs) zero within = record { before = []; after = xs; item = x; gets = refl; whole = refl; left = refl }
split_at (x ∷ xs) (suc place) within =
    let rest = split_at xs place (omega (arith, within)) in
    record { before = x ∷ rest.before; after = rest.after; item = rest.item; gets = rest.gets; whole = ap (λ l. x ∷ l) rest.whole; left = ap (λ l. x ∷ l) rest.left }
