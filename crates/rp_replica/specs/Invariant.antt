-- How a replica's device and its records are related (no public clause names it).
use Rattle.std.specs.Prelude.{◌≡◌, ℕ, ◌≤◌, Bool, false, List, [], ◌++◌, length}
use Rattle.rp_base.specs.declared.record.Rec.{Rec}
use Rattle.rp_store.specs.Disk.{Disk}
use Rattle.rp_store.specs.Records.{AreRecordsOf}
use Rattle.rp_model.specs.Parts.{records_in_log}

-- The device holds all records of the node in order, of which those within the log count, in front,
-- and after them what is torn: nothing, unless it has failed. All records are stable, and nothing
-- else unless it has failed.
pub record IsOnDisk (most : ℕ) (disk : Disk) (failed : Bool) (records : List Rec) : Type 0 where
  pub all : List Rec
  pub front : List ℕ
  pub torn : List ℕ
  pub found : AreRecordsOf front all []
  pub contents : disk.contents ≡ front ++ torn
  pub counted : records ≡ records_in_log most all
  pub kept : length front ≤ disk.stable
  pub whole : failed ≡ false → torn ≡ []
  pub stable : failed ≡ false → disk.stable ≡ length disk.contents
