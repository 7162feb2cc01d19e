-- What a stop within a step leaves of a node's part and on its device.
use Rattle.std.specs.Prelude.{◌≡◌, ℕ, false, true, IfSome, Option, Some, None, Result, Ok, Err}
use Rattle.rp_base.specs.declared.fault.Fault.{Fault}
use Rattle.rp_base.specs.declared.record.Rec.{Rec}
use Rattle.rp_codec.specs.Record.{IsRecord, record_text}
use Rattle.rp_store.specs.Disk.{Disk, appended, stopped, AppendFailed}
use Rattle.rp_model.specs.Parts.{Turn}
use Rattle.rp_model.specs.Parts.{is_in_log}
use Rattle.rp_replica.specs.declared.cut.NotCut.{NotCut}
use Rattle.rp_replica.specs.declared.cut.NotCut.TheVariants.{Failed as DeviceFailed, Refused}
use Rattle.rp_replica.specs.State.{ReplicaState}
use Rattle.rp_replica.specs.Kept.{HoldsCut}
use Rattle.rp_replica.specs.Turning.{Stops, IsRefused}

-- no record, or one that is within its ranges and at a position of the log or at none
abbrev pub MayWrite : ℕ → Option Rec → Type 0
MayWrite most written = IfSome written (λ rec. IsRecord rec × (is_in_log most rec ≡ true))

-- what a device holds that stopped within the write of a record, or of none
abbrev pub cut_disk : ℕ → Disk → Option Rec → Disk
cut_disk kept disk None = disk
cut_disk kept disk (Some rec) = stopped kept (appended (record_text rec) disk)

-- The node stopped within a turn that writes this record, or none: its device holds n bytes of it,
-- and so what a cut leaves of the node's part.
pub record Cuts {S : Type 0} (written : Option Rec) (kept : ℕ) (old : ReplicaState S) (disk : Disk)
    : Type 0 where
  pub disk_is : disk ≡ cut_disk kept old.disk written
  pub holds : HoldsCut kept old disk written
  pub working : old.failed ≡ false

-- the device failed while the record was written: it holds some cut of the turn
pub record FailsInCut {S : Type 0} (written : Option Rec) (old : ReplicaState S) (disk : Disk)
    : Type 0 where
  pub rec : Rec
  pub is : written ≡ Some rec
  pub disk_is : AppendFailed (record_text rec) old.disk disk
  pub holds : (kept : ℕ) × HoldsCut kept old disk written
  pub working : old.failed ≡ false

-- why the turn is not cut, and what that leaves: the device alone where it failed, else the replica
-- as it was
abbrev pub IsNotCut : {S D P : Type 0} → (D → Disk) → Option Rec → ReplicaState S → NotCut S D P
    → Type 0
IsNotCut disk written old (DeviceFailed device) = FailsInCut written old (disk device)
IsNotCut disk written old (Refused fault new) = Stops written old new fault × (new ≡ old)

-- the node stopped within the result of an input
abbrev pub CutsIf : {S : Type 0} → Result Turn Fault → ℕ → ReplicaState S → Disk → Type 0
CutsIf (Ok turn) kept old disk = Cuts turn.written kept old disk
CutsIf (Err refusal) kept old disk = ⊥

-- why the result of an input is not cut
abbrev pub IsNotCutIf : {S D P : Type 0} → (D → Disk) → Result Turn Fault → ReplicaState S
    → NotCut S D P → Type 0
IsNotCutIf disk (Ok turn) old refused = IsNotCut disk turn.written old refused
IsNotCutIf disk (Err refusal) old (DeviceFailed device) = ⊥
IsNotCutIf disk (Err refusal) old (Refused fault new) = IsRefused refusal old new fault
