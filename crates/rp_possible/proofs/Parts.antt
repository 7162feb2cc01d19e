-- The parts of a world by their numbers, where one is put in its place.
use Rattle.std.proofs.Common.{◌≡◌, ◌≢◌, ℕ, zero, suc, Some, List, [], ◌∷◌, refl, ap}
use Rattle.std.specs.Prelude.{slice_get, slice_set}
use Rattle.rp_model.specs.World.{part_at, with_part}

set_get : {A : Type 0} (xs : List A) (i : ℕ) (was a : A) → slice_get xs i ≡ Some was → slice_get (slice_set xs i a) i ≡ Some a
set_get [] i was a e = absurd (cc)
set_get (x ∷ xs) zero was a e = refl
set_get (x ∷ xs) (suc i) was a e = set_get xs i was a e

-- the one that was put in its place is there
pub put_there : {A : Type 0} (parts : List A) (place : ℕ) (was a : A) → part_at parts place ≡ Some was → part_at (with_part parts place a) place ≡ Some a
put_there parts zero was a e = absurd (cc)
put_there parts (suc i) was a e = set_get parts i was a e

set_beside : {A : Type 0} (xs : List A) (i j : ℕ) (a : A) → j ≢ i → slice_get (slice_set xs i a) j ≡ slice_get xs j
set_beside [] i j a other = refl
set_beside (x ∷ xs) zero zero a other = absurd (other refl)
set_beside (x ∷ xs) zero (suc j) a other = refl
set_beside (x ∷ xs) (suc i) zero a other = refl
set_beside (x ∷ xs) (suc i) (suc j) a other = set_beside xs i j a (λ e. other (ap suc e))

-- and the others are as they were
pub put_beside : {A : Type 0} (parts : List A) (place other : ℕ) (a : A) → other ≢ place → part_at (with_part parts place a) other ≡ part_at parts other
put_beside parts zero other a differs = refl
put_beside parts (suc i) zero a differs = refl
put_beside parts (suc i) (suc j) a differs = set_beside parts i j a (λ e. differs (ap suc e))
