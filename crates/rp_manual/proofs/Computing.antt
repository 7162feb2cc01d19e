-- How components of one name are read and written.
use Rattle.std.proofs.Common.{◌≡◌, [], ◌∷◌, Some, sym}
use Rattle.std.specs.Ordering.{nat_cmp}
use Rattle.std.specs.FinMap.{get, insert, empty}
use Rattle.rp_object.specs.rp_body.proofs.Places.{get-by_place, by_place-set}
use Rattle.std.proofs.Common.{arith}
use Rattle.rp_manual.proofs.Assigning.{effect-Set, effect-Put, effect-Out, effect-If}

module _ {X : Type 0} (x : X) where
  pub first_get : get (insert (empty {R = nat_cmp}) 0 x) 0 ≡ Some x
  first_get = get-by_place (x ∷ []) 0

  pub first_insert : (y : X) → insert (insert (empty {R = nat_cmp}) 0 x) 0 y ≡ insert empty 0 y
  first_insert y = sym (by_place-set (x ∷ []) 0 y (omega arith))

-- what statements do, and how the one component of a kind is read and written
pub ruleset works = (effect-Set, effect-Put, effect-Out, effect-If, first_get, first_insert)
