-- What a stop inside a put leaves.
use Rattle.std.specs.Prelude.{◌≡◌, ℕ, true, false, List}
use Rattle.rp_codec.specs.rp_base.specs.declared.fault.Fault.TheVariants.{OutOfMemory, Failed}
use Rattle.rp_store.specs.declared.store.NotTorn.{NotTorn}
use Rattle.rp_store.specs.declared.store.NotTorn.TheVariants.{Failed as DeviceFailed, Refused}
use Rattle.rp_store.specs.Disk.{Disk, appended, stopped, AppendFailed}
use Rattle.rp_store.specs.Stored.{Stored, IsUnchanged}

-- The store had not failed, and its device holds the old contents and the first bytes of the text,
-- as many as a stop keeps. Nothing was synced.
pub record IsTorn {D : Type 0} (disk : D → Disk) (text : List ℕ) (kept : ℕ) (old : Stored D)
    (new : D) : Type 0 where
  pub disk_is : disk new ≡ stopped kept (appended text (disk old.device))
  pub worked : old.failed ≡ false

-- Why no text is torn, and what that leaves.
abbrev pub IsNotTorn : {D : Type 0} → (D → Disk) → List ℕ → Stored D → NotTorn D → Type 0
IsNotTorn disk text old (DeviceFailed device) =
    AppendFailed text (disk old.device) (disk device) × (old.failed ≡ false)
IsNotTorn disk text old (Refused OutOfMemory store) =
    IsUnchanged disk old store × (old.failed ≡ false)
IsNotTorn disk text old (Refused Failed store) = IsUnchanged disk old store × (old.failed ≡ true)
IsNotTorn disk text old (Refused _ store) = ⊥
