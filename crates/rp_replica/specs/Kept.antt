-- What a device keeps of a node's part.
use Rattle.std.specs.Prelude.{◌≡◌, ℕ, Option, List, length}
use Rattle.rp_base.specs.declared.record.Rec.{Rec}
use Rattle.rp_store.specs.Disk.{Disk}
use Rattle.rp_store.specs.Records.{AreTextsOf, AreRecordsOf}
use Rattle.rp_model.specs.Parts.{NodePart}
use Rattle.rp_model.specs.Parts.{records_in_log}
use Rattle.rp_model.specs.Effect.{cut_part}
use Rattle.rp_replica.specs.State.{ReplicaState, part_of}

-- The device holds the records of the part, and those above the log, which do not count; the torn
-- bytes are after them.
pub record HoldsPart (most : ℕ) (disk : Disk) (part : NodePart) : Type 0 where
  pub all : List Rec
  pub torn : List ℕ
  pub found : AreRecordsOf disk.contents all torn
  pub records : part.records ≡ records_in_log most all
  pub bytes : part.torn ≡ length torn

-- The device holds the records of the part and no others; the torn bytes are after them.
pub record HoldsOnly (disk : Disk) (part : NodePart) : Type 0 where
  pub torn : List ℕ
  pub found : AreRecordsOf disk.contents part.records torn
  pub bytes : part.torn ≡ length torn

-- the device of a replica holds texts of its records and nothing else
abbrev pub HoldsItsRecords : {S : Type 0} → ReplicaState S → Type 0
HoldsItsRecords replica = AreTextsOf replica.records replica.disk.contents

-- The device holds what a stop within the write of this record, or of none, leaves of the node's
-- part, and no other records where it held no others before.
pub record HoldsCut {S : Type 0} (kept : ℕ) (old : ReplicaState S) (disk : Disk)
    (written : Option Rec) : Type 0 where
  pub left : HoldsPart old.config.max_positions disk (cut_part kept (part_of old) written)
  pub only : HoldsItsRecords old → HoldsOnly disk (cut_part kept (part_of old) written)
