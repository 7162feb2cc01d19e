-- What a store is to its callers.
use Rattle.std.specs.Prelude.{◌≡◌, ℕ, Bool, true, false, List}
use Rattle.rp_codec.specs.rp_base.specs.declared.fault.Fault.{Fault}
use Rattle.rp_codec.specs.rp_base.specs.declared.fault.Fault.TheVariants.{OutOfMemory, Device}
use Rattle.rp_codec.specs.rp_base.specs.declared.fault.Fault.TheVariants.{Failed}
use Rattle.rp_store.specs.Disk.{Disk, appended, synced, AppendFailed}

-- its device, and whether that has failed since it was opened
pub record Stored (D : Type 0) : Type 0 where
  pub device : D
  pub failed : Bool

-- the device holds the same, and it has failed now if it had before
pub record IsUnchanged {D : Type 0} (disk : D → Disk) (old new : Stored D) : Type 0 where
  pub disk_same : disk new.device ≡ disk old.device
  pub failed : new.failed ≡ old.failed

-- The text is after the old contents, and all is stable after one sync. Nothing was read or cut.
pub record IsPut {D : Type 0} (disk : D → Disk) (text : List ℕ) (old new : Stored D) : Type 0 where
  pub disk_is : disk new.device ≡ synced (appended text (disk old.device))
  pub worked : old.failed ≡ false
  pub working : new.failed ≡ false

-- some beginning of the text may be after the old contents, and the device has failed
pub record FailsInPut {D : Type 0} (disk : D → Disk) (text : List ℕ) (old new : Stored D)
    : Type 0 where
  pub disk_is : AppendFailed text (disk old.device) (disk new.device)
  pub worked : old.failed ≡ false
  pub failed : new.failed ≡ true

-- Why a text is not put, and what that leaves: nothing changed where memory ran out or the device
-- had failed before. There is no other reason.
abbrev pub IsNotPut : {D : Type 0} → (D → Disk) → List ℕ → Stored D → Fault → Stored D → Type 0
IsNotPut disk text old OutOfMemory new = IsUnchanged disk old new × (old.failed ≡ false)
IsNotPut disk text old Device new = FailsInPut disk text old new
IsNotPut disk text old Failed new = IsUnchanged disk old new × (old.failed ≡ true)
IsNotPut disk text old _ new = ⊥
