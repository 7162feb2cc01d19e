-- What a statement leaves (Ada Reference Manual, sections 5.2 and 5.3).
use Rattle.std.specs.Prelude.{◌≡◌, ◌≢◌, ℕ, ℤ, Bool, Some}
use Rattle.std.specs.FinMap.{get}
use Rattle.rp_object.specs.rp_body.specs.declared.components.Ranged.{Ranged}
use Rattle.rp_object.specs.rp_body.specs.Store.{Store}

-- The whole number of this name has this value, with its range as it was, and every other component
-- is as it was.
pub record Assigns (name : ℕ) (value : ℤ) (before after : Store) : Type 0 where
  pub component : Ranged
  pub there : get before.ints name ≡ Some component
  pub assigned : get after.ints name ≡ Some (record component { value = value })
  pub others : (other : ℕ) → other ≢ name → get after.ints other ≡ get before.ints other
  pub bools : after.bools ≡ before.bools

-- The Boolean of this name has this value, and every other component is as it was.
pub record SetsBoolean (name : ℕ) (truth : Bool) (before after : Store) : Type 0 where
  pub assigned : get after.bools name ≡ Some truth
  pub others : (other : ℕ) → other ≢ name → get after.bools other ≡ get before.bools other
  pub ints : after.ints ≡ before.ints
