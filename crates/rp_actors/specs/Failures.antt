-- How often the devices of a cluster have failed.
use Rattle.std.specs.Prelude.{◌≡◌, ℕ, ◌<◌, Option, Some, None, Result, Ok, Err, List}
use Rattle.rp_base.specs.declared.fault.Fault.{Fault}
use Rattle.rp_base.specs.declared.fault.Fault.TheVariants.{Device}
use Rattle.rp_model.specs.World.{part_at, with_part}
use Rattle.rp_store.specs.Disk.{Disk}

-- some device of this kind has counted a failure
abbrev pub SomeHasFailed : {D : Type 0} → (D → Disk) → Type 0
SomeHasFailed {D = D} disk = (device : D) × (0 < (disk device).failures)

-- the count of this node's device is higher than before, and no other has changed
pub record RisesAt (me : ℕ) (old new : List ℕ) : Type 0 where
  pub before : ℕ
  pub after : ℕ
  pub was : part_at old me ≡ Some before
  pub rose : before < after
  pub others : new ≡ with_part old me after

-- there is such a node, and the count of its device alone rose
abbrev pub RisesOnly : Option ℕ → List ℕ → List ℕ → Type 0
RisesOnly None old new = ⊥
RisesOnly (Some me) old new = RisesAt me old new

-- After an answer the counts are as before; where it is a fault of a device, that of this node
-- alone rose.
abbrev pub AreCounted : {A : Type 0} → Option ℕ → List ℕ → List ℕ → Result A Fault → Type 0
AreCounted me old new (Ok stated) = new ≡ old
AreCounted me old new (Err Device) = RisesOnly me old new
AreCounted me old new (Err _) = new ≡ old
