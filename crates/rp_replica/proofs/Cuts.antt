-- What a stop within the write of a record leaves.
use Rattle.std.proofs.Common.{◌≡◌, ℕ, zero, suc, ◌+◌, ◌≤◌, Bool, true, false, cond, Option, Some, None, List, [], ◌∷◌, ◌++◌, length, take, refl, sym, ap, subst, ◌∙◌, arith, inl, inr}
use Rattle.std.specs.Prelude.{Result, Ok, Err, OnErr, IfErr, IfSome, nat_le, filter}
use Rattle.std.specs.List.{AllByRecursion}
use Rattle.std.proofs.lemmas.Bool.{cases_lt, le-leb, lt-leb}
use Rattle.rp_base.specs.declared.record.Rec.{Rec}
use Rattle.rp_codec.specs.Record.{record_text, IsRecord}
use Rattle.rp_store.specs.Disk.{Disk, appended, stopped, AppendFailed}
use Rattle.rp_store.specs.Records.{AreRecordsOf}
use Rattle.rp_store.specs.Stored.{Stored, IsNotPut}
use Rattle.rp_base.specs.declared.fault.Fault.{Fault}
use Rattle.rp_base.specs.declared.fault.WriteFault.{WriteFault}
use Rattle.rp_base.specs.WriteFaults.{fault_of}
use Rattle.rp_base.specs.declared.fault.Fault.TheVariants.{OutOfMemory, Device, Failed}
use Rattle.rp_store.proofs.Whole.{before_put, after_put, are_alone}
use Rattle.rp_model.specs.Parts.{NodePart}
use Rattle.rp_model.specs.Parts.{Running}
use Rattle.rp_model.specs.Effect.{cut_part, stop_part}
use Rattle.rp_model.specs.Parts.{is_in_log}
use Rattle.rp_replica.specs.Invariant.{IsOnDisk}
use Rattle.rp_rules.specs.rp_server.specs.State.{ServerState}
use Rattle.rp_replica.specs.State.{ReplicaState, part_of, replica_of}
use Rattle.rp_replica.specs.Kept.{HoldsPart, HoldsOnly, HoldsItsRecords, HoldsCut}
use Rattle.rp_replica.specs.Turning.{Stops}
use Rattle.rp_replica.specs.Cutting.{MayWrite, Cuts, FailsInCut}
use Rattle.rp_replica.proofs.Keeping.{counts_more, front_alone}

no_bytes : (torn : List ℕ) → 0 ≡ length torn → torn ≡ []
no_bytes [] e = refl
no_bytes (b ∷ torn) e = absurd (omega (arith, e))

taken_all : (n : ℕ) (bytes : List ℕ) → n ≤ length bytes → length (take n bytes) ≡ n
taken_all zero bytes within = refl
taken_all (suc n) [] within = absurd (omega arith)
taken_all (suc n) (b ∷ bytes) within = ap suc (taken_all n bytes (omega arith))

-- the device of a replica that works holds its part
pub holds_now : (most : ℕ) (disk : Disk) (records : List Rec) (running : Option Running) → IsOnDisk most disk false records
    → HoldsPart most disk (record { records = records; torn = 0; running = running })
holds_now most disk records running d = record {
  all = d.all;
  torn = [];
  found = subst (λ (contents : List ℕ). AreRecordsOf contents d.all []) (sym (front_alone most disk records d)) d.found;
  records = d.counted;
  bytes = refl;
}

module _ (most kept : ℕ) (part : NodePart) (rec : Rec) where
  cut_by : (b : Bool) → nat_le (length (record_text rec)) kept ≡ b → cut_part kept part (Some rec) ≡ cond b (record part { records = part.records ++ rec ∷ []; running = None }) (record part { torn = kept; running = None })
  cut_by true whole = ap (λ (b : Bool). cond b (record part { records = part.records ++ rec ∷ []; running = None }) (record part { torn = kept; running = None })) whole
  cut_by false part-of = ap (λ (b : Bool). cond b (record part { records = part.records ++ rec ∷ []; running = None }) (record part { torn = kept; running = None })) part-of

  -- some bytes of the record are after the others
  pub cut_holds : (disk after : Disk) → HoldsPart most disk part → part.torn ≡ 0 → IsRecord rec → is_in_log most rec ≡ true → after.contents ≡ disk.contents ++ take kept (record_text rec)
      → HoldsPart most after (cut_part kept part (Some rec))
  cut_holds disk after h untorn right in_log is =
      let none : h.torn ≡ [] = no_bytes h.torn (sym untorn ∙ h.bytes) in
      let found : AreRecordsOf disk.contents h.all [] = subst (AreRecordsOf disk.contents h.all) none h.found in
      elim (cases_lt kept (length (record_text rec))) [
        | inl less ↦
            subst (HoldsPart most after) (sym (cut_by false (lt-leb (length (record_text rec)) kept less)))
            (record {
              all = h.all;
              torn = take kept (record_text rec);
              found = subst (λ (t : List ℕ). AreRecordsOf t h.all (take kept (record_text rec))) (sym is) (before_put disk.contents h.all rec kept found right less);
              records = h.records;
              bytes = sym (taken_all kept (record_text rec) (omega arith));
            })
        | inr whole ↦
            subst (HoldsPart most after) (sym (cut_by true (le-leb (length (record_text rec)) kept whole)))
            (record {
              all = h.all ++ rec ∷ [];
              torn = [];
              found = subst (λ (t : List ℕ). AreRecordsOf t (h.all ++ rec ∷ []) []) (sym is) (after_put disk.contents h.all rec kept found right whole);
              records = ap (λ (rs : List Rec). rs ++ rec ∷ []) h.records ∙ counts_more most h.all rec in_log;
              bytes = untorn;
            })
      ]

  -- and no other records, where there were no others
  pub cut_only : (disk after : Disk) → HoldsOnly disk part → part.torn ≡ 0 → IsRecord rec → after.contents ≡ disk.contents ++ take kept (record_text rec)
      → HoldsOnly after (cut_part kept part (Some rec))
  cut_only disk after h untorn right is =
      let none : h.torn ≡ [] = no_bytes h.torn (sym untorn ∙ h.bytes) in
      let found : AreRecordsOf disk.contents part.records [] = subst (AreRecordsOf disk.contents part.records) none h.found in
      elim (cases_lt kept (length (record_text rec))) [
        | inl less ↦
            subst (HoldsOnly after) (sym (cut_by false (lt-leb (length (record_text rec)) kept less)))
            (record {
              torn = take kept (record_text rec);
              found = subst (λ (t : List ℕ). AreRecordsOf t part.records (take kept (record_text rec))) (sym is) (before_put disk.contents part.records rec kept found right less);
              bytes = sym (taken_all kept (record_text rec) (omega arith));
            })
        | inr whole ↦
            subst (HoldsOnly after) (sym (cut_by true (le-leb (length (record_text rec)) kept whole)))
            (record {
              torn = [];
              found = subst (λ (t : List ℕ). AreRecordsOf t (part.records ++ rec ∷ []) []) (sym is) (after_put disk.contents part.records rec kept found right whole);
              bytes = untorn;
            })
      ]

-- what a stop leaves of contents that were all stable
pub stopped_contents : (kept : ℕ) (text : List ℕ) (disk : Disk) → disk.stable ≡ length disk.contents → (stopped kept (appended text disk)).contents ≡ disk.contents ++ take kept text
stopped_contents kept text disk stable = ap (λ (n : ℕ). take (n + kept) (disk.contents ++ text)) stable ∙ passed disk.contents
  where
    passed : (xs : List ℕ) → take (length xs + kept) (xs ++ text) ≡ xs ++ take kept text
    passed [] = let here : 0 + kept ≡ kept = omega arith in ap (λ (n : ℕ). take n text) here
    passed (x ∷ xs) =
        let more : length (x ∷ xs) + kept ≡ suc (length xs + kept) = omega arith in
        ap (λ (n : ℕ). take n (x ∷ xs ++ text)) more ∙ ap (λ (ys : List ℕ). x ∷ ys) (passed xs)

-- ---- a replica

all_that : (test : Rec → Bool) (all : List Rec) → AllByRecursion IsRecord all → AllByRecursion IsRecord (filter test all)
all_that test [] each = tt
all_that test (rec ∷ rest) each =
    elim (test rec) as (λ b. AllByRecursion IsRecord (cond b (rec ∷ filter test rest) (filter test rest))) [
      | true ↦ (each.0, all_that test rest each.1)
      | false ↦ all_that test rest each.1
    ]

module _ {S : Type 0} (replica : ReplicaState S) (on_device : IsOnDisk replica.config.max_positions replica.disk replica.failed replica.records) (working : replica.failed ≡ false) where
  works : IsOnDisk replica.config.max_positions replica.disk false replica.records
  works = subst (λ (f : Bool). IsOnDisk replica.config.max_positions replica.disk f replica.records) working on_device

  pub replica_now : HoldsPart replica.config.max_positions replica.disk (part_of replica)
  replica_now = holds_now replica.config.max_positions replica.disk replica.records (Some replica.running) works

  -- and no other record where it holds texts of its records and nothing else
  only_now : HoldsItsRecords replica → HoldsOnly replica.disk (part_of replica)
  only_now only = record {
    torn = [];
    found = are_alone replica.disk.contents replica.records only
        (subst (AllByRecursion IsRecord) (sym works.counted) (all_that (is_in_log replica.config.max_positions) works.all works.found.each));
    bytes = refl;
  }

  pub stops_with : HoldsItsRecords replica → HoldsOnly replica.disk (stop_part (part_of replica))
  stops_with only = let h = only_now only in record { torn = h.torn; found = h.found; bytes = h.bytes }

  -- some bytes of a record are after the others
  cuts_by : (kept : ℕ) (rec : Rec) (after : Disk) → MayWrite replica.config.max_positions (Some rec) → after.contents ≡ replica.disk.contents ++ take kept (record_text rec) → HoldsCut kept replica after (Some rec)
  cuts_by kept rec after may is = record {
    left = cut_holds replica.config.max_positions kept (part_of replica) rec replica.disk after replica_now refl may.0 may.1 is;
    only = λ only. cut_only replica.config.max_positions kept (part_of replica) rec replica.disk after (only_now only) refl may.0 is;
  }

  -- it stops within the write of a record
  pub torn_cuts : (kept : ℕ) (rec : Rec) (after : Disk) → MayWrite replica.config.max_positions (Some rec) → after ≡ stopped kept (appended (record_text rec) replica.disk) → Cuts (Some rec) kept replica after
  torn_cuts kept rec after may is = record {
    disk_is = is;
    holds = cuts_by kept rec after may (ap (λ (d : Disk). d.contents) is ∙ stopped_contents kept (record_text rec) replica.disk (works.stable refl));
    working = working;
  }

  -- its device fails there
  pub failure_cuts : (rec : Rec) (after : Disk) → MayWrite replica.config.max_positions (Some rec) → AppendFailed (record_text rec) replica.disk after → (kept : ℕ) × HoldsCut kept replica after (Some rec)
  failure_cuts rec after may failed = (failed.contents.0, cuts_by failed.contents.0 rec after may failed.contents.1)

  pub torn_fails : (rec : Rec) (after : Disk) → MayWrite replica.config.max_positions (Some rec) → AppendFailed (record_text rec) replica.disk after → FailsInCut (Some rec) replica after
  torn_fails rec after may failed = record {
    rec = rec;
    is = refl;
    disk_is = failed;
    holds = failure_cuts rec after may failed;
    working = working;
  }

-- a stop leaves what the device holds
pub stop_holds : (most : ℕ) (disk : Disk) (part : NodePart) → HoldsPart most disk part → HoldsPart most disk (stop_part part)
stop_holds most disk part h = record {
  all = h.all;
  torn = h.torn;
  found = h.found;
  records = h.records;
  bytes = h.bytes;
}

-- ---- a write that is refused

module _ {S D : Type 0} (disk : D → Disk) (server : ServerState S) (old new : Stored D) (rec : Rec) where
  stops_by : (fault : Fault) → IsOnDisk server.config.max_positions (disk old.device) old.failed server.records → MayWrite server.config.max_positions (Some rec) → IsNotPut disk (record_text rec) old fault new
      → Stops (Some rec) (replica_of server (disk old.device) old.failed) (replica_of server (disk new.device) new.failed) fault
  stops_by OutOfMemory on_device may not = (λ i. replica_of server (not.0.disk_same i) (not.0.failed i), not.1)
  stops_by Device on_device may not = (
    record {
      rec = rec;
      is = refl;
      disk = not.disk_is;
      goes = λ i. replica_of server (disk new.device) (not.failed i);
      holds = failure_cuts (replica_of server (disk old.device) old.failed) on_device not.worked rec (disk new.device) may not.disk_is;
    },
    not.worked,
  )
  stops_by Failed on_device may not = (λ i. replica_of server (not.0.disk_same i) (not.0.failed i), not.1)
  stops_by _ on_device may not = absurd not

  -- a write that failed, as its caller returns the fault
  pub write_fails : {T : Type 0} (r : Result T WriteFault) (after : ServerState S) (h : ReplicaState S) → OnErr r (after ≡ server) → IfErr r (λ fault. IsNotPut disk (record_text rec) old (fault_of fault) new)
      → IsOnDisk server.config.max_positions (disk old.device) old.failed server.records → MayWrite server.config.max_positions (Some rec) → replica_of server (disk old.device) old.failed ≡ h
      → IfErr r (λ fault. Stops (Some rec) h (replica_of after (disk new.device) new.failed) (fault_of fault))
  write_fails (Ok v) after h same err on_device may at = tt
  write_fails (Err fault) after h same err on_device may at =
      subst (λ (k : ReplicaState S). Stops (Some rec) k (replica_of after (disk new.device) new.failed) (fault_of fault)) at
      (subst (λ (k : ServerState S). Stops (Some rec) (replica_of server (disk old.device) old.failed) (replica_of k (disk new.device) new.failed) (fault_of fault)) (sym same)
      (stops_by (fault_of fault) on_device may err))

  -- the same, where it was to be written in one case alone
  pub write_fails_if : {T : Type 0} (r : Option (Result T WriteFault)) (after : ServerState S) (h : ReplicaState S) → IfSome r (λ done. OnErr done (after ≡ server)) → IfSome r (λ done. IfErr done (λ fault. IsNotPut disk (record_text rec) old (fault_of fault) new))
      → IsOnDisk server.config.max_positions (disk old.device) old.failed server.records → MayWrite server.config.max_positions (Some rec) → replica_of server (disk old.device) old.failed ≡ h
      → IfSome r (λ done. IfErr done (λ fault. Stops (Some rec) h (replica_of after (disk new.device) new.failed) (fault_of fault)))
  write_fails_if None after h same err on_device may at = tt
  write_fails_if (Some done) after h same err on_device may at = write_fails done after h same err on_device may at
