-- What names denote is counted where all that is declared is.
use Rattle.std.proofs.Common.{◌≡◌, ℕ, zero, ◌&&◌, List, [], ◌∷◌, ◌++◌, Bool, true, false, Option, Some, None, arith, refl, subst}
use Rattle.std.specs.Prelude.{All, IsTrue, slice_get}
use Rattle.std.proofs.lemmas.Option.{get_or_from_slice_get, slice_get_within}
use Rattle.rp_words.specs.Tables.{value_at, find, place_of}
use Rattle.rp_deck_bodies.proofs.ListLemmas.{all_cons, all_tail}

pub at_place : {X : Type 0} (P : X → Type 0) (xs : List X) (k : ℕ) (x : X) → All P xs → slice_get xs k ≡ Some x → P x
at_place P xs k x all is = subst P (get_or_from_slice_get xs k x x is) (all k x (slice_get_within xs k x is))

pub found_holds : {X : Type 0} (P : X → Type 0) (name : List ℕ) (names : List (List ℕ)) (xs : List X) (x : X) → All P xs → find name names xs ≡ Some x → P x
found_holds P name names xs x all is = by (place_of name names) is
  where
    by : (place : Option ℕ) → value_at xs place ≡ Some x → P x
    by None h = absurd (cc)
    by (Some k) h = at_place P xs k x all h

pub both_true : (a b : Bool) → IsTrue a → IsTrue b → IsTrue (a && b)
both_true true true h k = refl
both_true true false h k = absurd (cc)
both_true false b h k = absurd (cc)

-- what is so of a longer list is so of its front
pub all_front : {X : Type 0} (P : X → Type 0) (xs : List X) (x : X) → All P (xs ++ x ∷ []) → All P xs
all_front P [] x all = λ i d below. absurd (omega (arith, below))
all_front P (y ∷ ys) x all = all_cons P y ys (all zero y (omega arith)) (all_front P ys x (all_tail P y (ys ++ x ∷ []) all))
