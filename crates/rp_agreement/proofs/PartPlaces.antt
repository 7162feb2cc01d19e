-- The parts of a world by their numbers, where one is put in its place, and packets that are sent too.
use Rattle.std.proofs.Common.{◌≡◌, ◌≢◌, ℕ, zero, suc, ◌<◌, Option, Some, List, [], ◌∷◌, ◌++◌, length, inl, inr, refl, sym, ap, arith}
use Rattle.std.specs.Prelude.{slice_get, slice_set, unwrap_or}
use Rattle.rp_base.specs.Sets.{Has}
use Rattle.rp_base.proofs.Members.{has_split, has_left, has_right}
use Rattle.rp_codec.specs.Message.{Message}
use Rattle.rp_model.specs.World.{part_at, with_part}
use Rattle.rp_agreement.specs.Sound.{IsMember}
use Rattle.rp_agreement.specs.Steps.{SentToo}

get_has : {A : Type 0} (xs : List A) (i : ℕ) (a : A) → slice_get xs i ≡ Some a → Has a xs
get_has [] i a e = absurd (cc)
get_has (x ∷ xs) zero a e = inl (sym (ap (λ (o : Option _). unwrap_or o x) e))
get_has (x ∷ xs) (suc i) a e = inr (get_has xs i a e)

pub part_has : {A : Type 0} (parts : List A) (place : ℕ) (a : A) → part_at parts place ≡ Some a → Has a parts
part_has parts zero a e = absurd (cc)
part_has parts (suc i) a e = get_has parts i a e

get_below : {A : Type 0} (xs : List A) (i : ℕ) (a : A) → slice_get xs i ≡ Some a → i < length xs
get_below [] i a e = absurd (cc)
get_below (x ∷ xs) zero a e = omega arith
get_below (x ∷ xs) (suc i) a e = let below : i < length xs = get_below xs i a e in omega (arith, below)

pub part_below : {A : Type 0} (parts : List A) (place : ℕ) (a : A) → part_at parts place ≡ Some a → IsMember (length parts) place
part_below parts zero a e = absurd (cc)
part_below parts (suc i) a e = let below : i < length parts = get_below parts i a e in (omega arith, omega (arith, below))

set_get : {A : Type 0} (xs : List A) (i : ℕ) (was a : A) → slice_get xs i ≡ Some was → slice_get (slice_set xs i a) i ≡ Some a
set_get [] i was a e = absurd (cc)
set_get (x ∷ xs) zero was a e = refl
set_get (x ∷ xs) (suc i) was a e = set_get xs i was a e

set_beside : {A : Type 0} (xs : List A) (i j : ℕ) (a : A) → j ≢ i → slice_get (slice_set xs i a) j ≡ slice_get xs j
set_beside [] i j a other = refl
set_beside (x ∷ xs) zero zero a other = absurd (other refl)
set_beside (x ∷ xs) zero (suc j) a other = refl
set_beside (x ∷ xs) (suc i) zero a other = refl
set_beside (x ∷ xs) (suc i) (suc j) a other = set_beside xs i j a (λ e. other (ap suc e))

set_length : {A : Type 0} (xs : List A) (i : ℕ) (a : A) → length (slice_set xs i a) ≡ length xs
set_length [] i a = refl
set_length (x ∷ xs) zero a = refl
set_length (x ∷ xs) (suc i) a = ap suc (set_length xs i a)

-- the one that was put in its place is there
pub put_there : {A : Type 0} (parts : List A) (place : ℕ) (was a : A) → part_at parts place ≡ Some was → part_at (with_part parts place a) place ≡ Some a
put_there parts zero was a e = absurd (cc)
put_there parts (suc i) was a e = set_get parts i was a e

-- and the others are as they were
pub put_beside : {A : Type 0} (parts : List A) (place other : ℕ) (a : A) → other ≢ place → part_at (with_part parts place a) other ≡ part_at parts other
put_beside parts zero other a differs = refl
put_beside parts (suc i) zero a differs = refl
put_beside parts (suc i) (suc j) a differs = set_beside parts i j a (λ e. differs (ap suc e))

pub put_length : {A : Type 0} (parts : List A) (place : ℕ) (a : A) → length (with_part parts place a) ≡ length parts
put_length parts zero a = refl
put_length parts (suc i) a = set_length parts i a

-- the packets after those before are sent too
pub sent_after : (sent packets : List Message) → SentToo packets sent (sent ++ packets)
sent_after sent packets m = (
  λ h. has_split m sent packets h,
  λ h. elim h [ inl old ↦ has_left m sent packets old | inr new ↦ has_right m sent packets new ],
)
