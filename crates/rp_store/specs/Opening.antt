-- What opening a device does.
use Rattle.std.specs.Prelude.{◌≡◌, ℕ, suc, ◌<◌, nat_lt, if◌then◌else◌, List, [], ◌++◌, length}
use Rattle.rp_codec.specs.rp_base.specs.declared.fault.Fault.{Fault}
use Rattle.rp_codec.specs.rp_base.specs.declared.fault.Fault.TheVariants.{OutOfMemory, Device}
use Rattle.rp_codec.specs.rp_base.specs.declared.record.Rec.{Rec}
use Rattle.rp_store.specs.Disk.{Disk, IsReadAtMost}
use Rattle.rp_store.specs.Records.{AreRecordsOf, KeepsRecords}

-- The whole records of the device are returned and kept, what was torn after them is truncated, and
-- all that is left is stable. It was read once and synced once, truncated only where something was
-- torn, and nothing was appended.
pub record IsOpened (old : Disk) (records : List Rec) (cut_bytes : ℕ) (new : Disk) : Type 0 where
  pub found : (torn : List ℕ) × AreRecordsOf old.contents records torn × (cut_bytes ≡ length torn)
  pub contents : old.contents ≡ new.contents ++ found.0
  pub kept : AreRecordsOf new.contents records []
  pub stable : new.stable ≡ length new.contents
  pub failures : new.failures ≡ old.failures
  pub appends : new.appends ≡ old.appends
  pub syncs : new.syncs ≡ suc old.syncs
  pub reads : new.reads ≡ suc old.reads
  pub cuts : new.cuts ≡ (if nat_lt 0 cut_bytes then suc old.cuts else old.cuts)

-- Why an opening is refused, and what it leaves: nothing changed where memory ran out, and each
-- whole record is kept where the device failed. There is no other reason.
abbrev pub IsNotOpened : Disk → Fault → Disk → Type 0
IsNotOpened old OutOfMemory new = IsReadAtMost old new
IsNotOpened old Device new = KeepsRecords old new × (old.failures < new.failures)
IsNotOpened old _ new = ⊥
