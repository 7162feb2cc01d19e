-- What opening a replica does.
use Rattle.std.specs.Prelude.{◌≡◌, ◌⊎◌, ℕ, false, List, length}
use Rattle.rp_base.specs.declared.config.Config.{Config}
use Rattle.rp_base.specs.declared.fault.Fault.{Fault}
use Rattle.rp_base.specs.declared.fault.Fault.TheVariants.{OutOfMemory, Device}
use Rattle.rp_base.specs.declared.record.Rec.{Rec}
use Rattle.rp_store.specs.Disk.{Disk}
use Rattle.rp_store.specs.Opening.{IsOpened, IsNotOpened}
use Rattle.rp_model.specs.Parts.{fresh_running, records_in_log}
use Rattle.rp_replica.specs.State.{ReplicaState}

-- The replica runs by the records of the device that count, and by them alone; it returns how many
-- records the device holds, those above the log too, and how many torn bytes were truncated.
pub record Opens {S : Type 0} (me : ℕ) (config : Config) (begin : S) (old : Disk)
    (replica : ReplicaState S)
    (count cut_bytes : ℕ) : Type 0 where
  pub all : List Rec
  pub opened : IsOpened old all cut_bytes replica.disk
  pub starts : replica ≡ record {
    me = me;
    config = config;
    begin = begin;
    records = records_in_log config.max_positions all;
    running = fresh_running;
    disk = replica.disk;
    failed = false;
  }
  pub counted : count ≡ length all

-- Why it is not opened, and what that leaves: where memory ran out, the device as it was, but for a
-- read, or read, cut and synced; where the device failed, each whole record. There is no other
-- reason.
abbrev pub IsRefusedOpening : Disk → Fault → Disk → Type 0
IsRefusedOpening old OutOfMemory new =
    IsNotOpened old OutOfMemory new
    ⊎ ((all : List Rec) × (cut_bytes : ℕ) × IsOpened old all cut_bytes new)
IsRefusedOpening old Device new = IsNotOpened old Device new
IsRefusedOpening old _ new = ⊥
