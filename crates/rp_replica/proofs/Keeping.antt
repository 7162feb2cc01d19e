-- A replica's device and records once a record is written, or was to be.
use Rattle.std.proofs.Common.{◌≡◌, ℕ, Bool, true, false, cond, if◌then◌else◌, List, [], ◌∷◌, ◌++◌, length, take, Option, Some, None, refl, sym, ap, subst, ◌∙◌, arith}
use Rattle.std.proofs.lemmas.List.{append-nil}
use Rattle.std.proofs.lemmas.List.Elements.{filter-append}
use Rattle.std.specs.Prelude.{Result, Ok, Err, OnOk, OnErr, IfErr, IfSome, IfNone}
use Rattle.rp_base.specs.declared.fault.Fault.{Fault}
use Rattle.rp_base.specs.declared.fault.Fault.TheVariants.{OutOfMemory, Device, Failed}
use Rattle.rp_base.specs.declared.fault.WriteFault.{WriteFault}
use Rattle.rp_base.specs.WriteFaults.{fault_of}
use Rattle.rp_base.specs.declared.record.Rec.{Rec}
use Rattle.rp_codec.specs.Record.{record_text, IsRecord}
use Rattle.rp_model.specs.Parts.{Turn, is_in_log, records_in_log, with_record}
use Rattle.rp_rules.specs.rp_server.specs.Invariant.{AllInLog}
use Rattle.rp_rules.specs.rp_server.specs.State.{ServerState, server_after}
use Rattle.rp_store.specs.Disk.{Disk, appended, synced, AppendFailed}
use Rattle.rp_store.specs.Stored.{Stored, IsUnchanged, IsPut, IsNotPut}
use Rattle.rp_store.proofs.Whole.{one_more}
use Rattle.rp_replica.specs.Cutting.{MayWrite}
use Rattle.rp_replica.specs.Invariant.{IsOnDisk}

-- ---- on the device

-- a record more counts where it is within the log
pub counts_more : (most : ℕ) (all : List Rec) (rec : Rec) → is_in_log most rec ≡ true → records_in_log most all ++ rec ∷ [] ≡ records_in_log most (all ++ rec ∷ [])
counts_more most all rec in_log =
    sym (filter-append (is_in_log most) all (rec ∷ []) ∙ ap (λ (b : Bool). records_in_log most all ++ (if b then rec ∷ [] else [])) in_log)

-- a device that has not failed holds the records alone
pub front_alone : (most : ℕ) (disk : Disk) (records : List Rec) (d : IsOnDisk most disk false records) → disk.contents ≡ d.front
front_alone most disk records d = d.contents ∙ ap (λ (t : List ℕ). d.front ++ t) (d.whole refl) ∙ append-nil d.front

-- a record more is written
pub disk_more : (most : ℕ) (disk after : Disk) (records : List Rec) (rec : Rec) → IsOnDisk most disk false records → IsRecord rec → is_in_log most rec ≡ true
    → after ≡ synced (appended (record_text rec) disk) → IsOnDisk most after false (records ++ rec ∷ [])
disk_more most disk after records rec d right in_log is =
    let whole : after.contents ≡ d.front ++ record_text rec =
    ap (λ (k : Disk). k.contents) is ∙ ap (λ (t : List ℕ). t ++ record_text rec) (front_alone most disk records d) in
    let long : length after.contents ≡ length (d.front ++ record_text rec) = ap length whole in
    let stable : after.stable ≡ length after.contents = ap (λ (k : Disk). k.stable) is ∙ sym (ap (λ (k : Disk). length k.contents) is) in
    record {
      all = d.all ++ rec ∷ [];
      front = d.front ++ record_text rec;
      torn = [];
      found = one_more d.front d.all rec d.found right;
      contents = whole ∙ sym (append-nil (d.front ++ record_text rec));
      counted = ap (λ (rs : List Rec). rs ++ rec ∷ []) d.counted ∙ counts_more most d.all rec in_log;
      kept = omega (arith, long, stable);
      whole = λ e. refl;
      stable = λ e. stable;
    }

-- a record was to be written, and the device failed
pub disk_failed : (most : ℕ) (disk after : Disk) (records : List Rec) (bytes : List ℕ) → IsOnDisk most disk false records → AppendFailed bytes disk after → IsOnDisk most after true records
disk_failed most disk after records bytes d failed = record {
  all = d.all;
  front = d.front;
  torn = take failed.contents.0 bytes;
  found = d.found;
  contents = failed.contents.1 ∙ ap (λ (t : List ℕ). t ++ take failed.contents.0 bytes) (front_alone most disk records d);
  counted = d.counted;
  kept = omega (arith, d.kept, failed.stable);
  whole = λ e. absurd (cc);
  stable = λ e. absurd (cc);
}

-- ---- on a device that is opened

in_log_more : (most : ℕ) (rec : Rec) (rest : List Rec) (b : Bool) → is_in_log most rec ≡ b → AllInLog most rest → AllInLog most (cond b (rec ∷ rest) rest)
in_log_more most rec rest true is all = (is, all)
in_log_more most rec rest false is all = all

-- the records that count are within the log
pub all_in_log : (most : ℕ) (all : List Rec) → AllInLog most (records_in_log most all)
all_in_log most [] = tt
all_in_log most (rec ∷ rest) = in_log_more most rec (records_in_log most rest) (is_in_log most rec) refl (all_in_log most rest)

-- ---- once a record is written, or was to be

module _ {D : Type 0} (disk : D → Disk) (old new : Stored D) (rec : Rec) where
  same_disk : (most : ℕ) (records : List Rec) → IsOnDisk most (disk old.device) old.failed records → IsUnchanged disk old new → IsOnDisk most (disk new.device) new.failed records
  same_disk most records d u =
      subst (λ (f : Bool). IsOnDisk most (disk new.device) f records) (sym u.failed)
      (subst (λ (k : Disk). IsOnDisk most k old.failed records) (sym u.disk_same) d)

  -- the device where the write was refused
  disk_refused : (most : ℕ) (records : List Rec) (fault : Fault) → IsOnDisk most (disk old.device) old.failed records → IsNotPut disk (record_text rec) old fault new → IsOnDisk most (disk new.device) new.failed records
  disk_refused most records OutOfMemory d not = same_disk most records d not.0
  disk_refused most records Device d not =
      subst (λ (f : Bool). IsOnDisk most (disk new.device) f records) (sym not.failed)
      (disk_failed most (disk old.device) (disk new.device) records (record_text rec) (subst (λ (f : Bool). IsOnDisk most (disk old.device) f records) not.worked d) not.disk_is)
  disk_refused most records Failed d not = same_disk most records d not.0
  disk_refused most records _ d not = absurd not

module _ {S D : Type 0} (disk : D → Disk) (before after : ServerState S) (old new : Stored D) (rec : Rec) (turn : Turn) (is : turn.written ≡ Some rec) where
  -- the device and the records after it
  pub disk_written : {T : Type 0} (r : Result T WriteFault) → OnOk r (IsPut disk (record_text rec) old new) → OnOk r (after ≡ server_after before turn) → OnErr r (after ≡ before)
      → IfErr r (λ fault. IsNotPut disk (record_text rec) old (fault_of fault) new) → IsOnDisk before.config.max_positions (disk old.device) old.failed before.records
      → MayWrite before.config.max_positions (Some rec) → IsOnDisk after.config.max_positions (disk new.device) new.failed after.records
  disk_written (Ok v) put goes same err d may =
      let most = before.config.max_positions in
      let more : IsOnDisk most (disk new.device) false (before.records ++ rec ∷ []) =
      disk_more most (disk old.device) (disk new.device) before.records rec (subst (λ (f : Bool). IsOnDisk most (disk old.device) f before.records) put.worked d) may.0 may.1 put.disk_is in
      subst (λ (k : ServerState S). IsOnDisk k.config.max_positions (disk new.device) new.failed k.records) (sym goes)
      (subst (λ (w : Option Rec). IsOnDisk most (disk new.device) new.failed (with_record before.records w)) (sym is)
      (subst (λ (f : Bool). IsOnDisk most (disk new.device) f (before.records ++ rec ∷ [])) (sym put.working) more))
  disk_written (Err fault) put goes same err d may =
      subst (λ (k : ServerState S). IsOnDisk k.config.max_positions (disk new.device) new.failed k.records) (sym same)
      (disk_refused disk old new rec before.config.max_positions before.records (fault_of fault) d err)

  -- the same, where it was to be written in one case alone
  pub disk_written_if : {T : Type 0} (r : Option (Result T WriteFault)) → IfSome r (λ done. OnOk done (IsPut disk (record_text rec) old new)) → IfSome r (λ done. OnOk done (after ≡ server_after before turn))
      → IfSome r (λ done. OnErr done (after ≡ before)) → IfSome r (λ done. IfErr done (λ fault. IsNotPut disk (record_text rec) old (fault_of fault) new)) → IfNone r ((after ≡ before) × (new ≡ old))
      → IsOnDisk before.config.max_positions (disk old.device) old.failed before.records → MayWrite before.config.max_positions (Some rec) → IsOnDisk after.config.max_positions (disk new.device) new.failed after.records
  disk_written_if (Some done) put goes same err none d may = disk_written done put goes same err d may
  disk_written_if None put goes same err none d may =
      subst (λ (k : ServerState S). IsOnDisk k.config.max_positions (disk new.device) new.failed k.records) (sym none.0)
      (subst (λ (k : Stored D). IsOnDisk before.config.max_positions (disk k.device) k.failed before.records) (sym none.1) d)
