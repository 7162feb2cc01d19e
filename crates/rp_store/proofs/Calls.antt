-- What the calls of a device leave, one after another.
use Rattle.std.proofs.Common.{◌≡◌, ◌⊎◌, inl, inr, ℕ, suc, ◌+◌, ◌<◌, ◌≤◌, List, ◌++◌, length, take, Result, Ok, Err, refl, sym, ap, subst, ◌∙◌, arith}
use Rattle.std.specs.Prelude.{IfErr, OnErr, IsErrAnd}
use Rattle.std.proofs.lemmas.List.{take_all, take_at}
use Rattle.rp_codec.specs.rp_base.specs.declared.fault.Fault.{Fault}
use Rattle.rp_codec.specs.rp_base.specs.declared.fault.Fault.TheVariants.{OutOfMemory, Device}
use Rattle.rp_codec.specs.rp_base.specs.declared.record.Rec.{Rec}
use Rattle.rp_store.specs.Disk.{Disk, appended, synced, read_once, ReadFailed, AppendFailed, SyncFailed, CutFailed, IsReadAtMost, KeepsFront, IsTrimmed}
use Rattle.rp_store.specs.Records.{records_text, AreRecordsOf, KeepsRecords}
use Rattle.rp_store.specs.Opening.{IsOpened, IsNotOpened}
use Rattle.rp_store.proofs.Whole.{keeps_records, texts_long, whole_long, without_torn}

-- an append, and a sync that fails
pub sync_failed : (bytes : List ℕ) (old mid new : Disk) → mid ≡ appended bytes old → SyncFailed mid new → AppendFailed bytes old new
sync_failed bytes old mid new e f =
    let g = subst (λ (d : Disk). SyncFailed d new) e f in
    record {
      cause = g.cause;
      contents = (length bytes, g.contents ∙ ap (λ (l : List ℕ). old.contents ++ l) (sym (take_all (length bytes) bytes (omega arith))));
      stable = g.stable;
      syncs = g.syncs;
      reads = g.reads;
      cuts = g.cuts;
    }

front_same : (len : ℕ) (old new : Disk) → len ≤ length old.contents → new ≡ old → KeepsFront len old new
front_same len old new long e =
    subst (λ (d : Disk). KeepsFront len old d) (sym e)
    (record { contents = (length old.contents, long, sym (take_all (length old.contents) old.contents (omega arith))); stable = omega arith; appends = refl })

-- a cut that gave up
pub cut_refused : {T : Type 0} (len : ℕ) (old new : Disk) (r : Result T Fault) → len ≤ length old.contents → IfErr r (λ fault. (fault ≡ OutOfMemory) ⊎ (fault ≡ Device))
    → (r ≡ Err OutOfMemory → new ≡ old) → (r ≡ Err Device → CutFailed len old new) → OnErr r (KeepsFront len old new)
cut_refused len old new (Ok x) long faults refused failed = tt
cut_refused len old new (Err e) long (inl is) refused failed = front_same len old new long (refused (rw is refl))
cut_refused len old new (Err e) long (inr is) refused failed =
    let f = failed (rw is refl) in
    record { contents = f.contents; stable = f.stable; appends = f.appends }

-- the contents stayed
pub keeps_all : (old new : Disk) → new.contents ≡ old.contents → old.stable ≤ new.stable → new.appends ≡ old.appends → KeepsRecords old new
keeps_all old new same stable appends = record {
  records = λ records torn are.
      let all : AreRecordsOf old.contents records (take (length torn) torn) = subst (AreRecordsOf old.contents records) (sym (take_all (length torn) torn (omega arith))) are in
      (length torn, subst (λ (l : List ℕ). AreRecordsOf l records (take (length torn) torn)) (sym same) all);
  stable = λ records torn are. omega arith;
  appends = appends;
}

pub keeps_same : (old new : Disk) → new ≡ old → KeepsRecords old new
keeps_same old new e = keeps_all old new (ap (λ (d : Disk). d.contents) e) (omega (arith, ap (λ (d : Disk). d.stable) e)) (ap (λ (d : Disk). d.appends) e)

read_at_most : (old new : Disk) → new ≡ old → IsReadAtMost old new
read_at_most old new e = record {
  contents = ap (λ (d : Disk). d.contents) e;
  stable = ap (λ (d : Disk). d.stable) e;
  failures = ap (λ (d : Disk). d.failures) e;
  appends = ap (λ (d : Disk). d.appends) e;
  syncs = ap (λ (d : Disk). d.syncs) e;
  cuts = ap (λ (d : Disk). d.cuts) e;
}

-- a read that gave up
pub read_refused : (old new : Disk) (e : Fault) → (e ≡ OutOfMemory) ⊎ (e ≡ Device) → (e ≡ OutOfMemory → new ≡ old) → (e ≡ Device → ReadFailed old new) → IsNotOpened old e new
read_refused old new e (inl is) refused failed = subst (λ (f : Fault). IsNotOpened old f new) (sym is) (read_at_most old new (refused is))
read_refused old new e (inr is) refused failed =
    let f = failed is in
    subst (λ (g : Fault). IsNotOpened old g new) (sym is) (keeps_all old new f.contents (omega (arith, f.stable)) f.appends, f.cause)

-- ---- the whole records, and what is torn after them

-- where the whole records end
pub whole_length : (contents : List ℕ) (records : List Rec) (torn : List ℕ) → AreRecordsOf contents records torn → length contents ≡ length (records_text records) + length torn
whole_length contents records torn are = whole_long contents records torn are

-- what is left without the torn end
pub trimmed : (contents : List ℕ) (records : List Rec) (torn : List ℕ) (whole : ℕ) → AreRecordsOf contents records torn → length (records_text records) ≡ whole → contents ≡ take whole contents ++ torn
trimmed contents records torn whole are ends =
    let left : take whole contents ≡ are.texts = ap (λ (l : List ℕ). take whole l) are.whole ∙ take_at are.texts torn whole (texts_long records are.texts are.are ∙ ends) in
    are.whole ∙ ap (λ (l : List ℕ). l ++ torn) (sym left)

-- a read, a trim and a sync
pub opened : (old read mid new : Disk) (records : List Rec) (torn : List ℕ) (whole cut_bytes : ℕ) → read ≡ read_once old → AreRecordsOf old.contents records torn → length (records_text records) ≡ whole → length torn ≡ cut_bytes
    → IsTrimmed whole cut_bytes read mid → new ≡ synced mid → IsOpened old records cut_bytes new
opened old read mid new records torn whole cut_bytes same are ends size t is =
    let trim = subst (λ (d : Disk). IsTrimmed whole cut_bytes d mid) same t in
    let left : new.contents ≡ take whole old.contents = ap (λ (d : Disk). d.contents) is ∙ trim.contents in
    let parts : old.contents ≡ new.contents ++ torn = trimmed old.contents records torn whole are ends ∙ ap (λ (l : List ℕ). l ++ torn) (sym left) in
    record {
      found = (torn, are, sym size);
      contents = parts;
      kept = without_torn old.contents new.contents records torn are parts;
      stable = ap (λ (d : Disk). d.stable) is ∙ ap length (sym (ap (λ (d : Disk). d.contents) is));
      failures = ap (λ (d : Disk). d.failures) is ∙ trim.failures;
      appends = ap (λ (d : Disk). d.appends) is ∙ trim.appends;
      syncs = ap (λ (d : Disk). d.syncs) is ∙ ap suc trim.syncs;
      reads = ap (λ (d : Disk). d.reads) is ∙ trim.reads;
      cuts = ap (λ (d : Disk). d.cuts) is ∙ trim.cuts;
    }

-- a trim, and a sync that fails
pub settle_failed : (len torn : ℕ) (old mid new : Disk) → IsTrimmed len torn old mid → SyncFailed mid new → KeepsFront len old new
settle_failed len torn old mid new t f = record { contents = (len, omega arith, f.contents ∙ t.contents); stable = omega (arith, t.stable, f.stable); appends = f.appends ∙ t.appends }

-- and so the records are kept
pub front_keeps : (old mid new : Disk) (records : List Rec) (torn : List ℕ) (whole : ℕ) → mid ≡ read_once old → AreRecordsOf old.contents records torn → length (records_text records) ≡ whole → KeepsFront whole mid new → KeepsRecords old new
front_keeps old mid new records torn whole same are ends front =
    let read = subst (λ (d : Disk). KeepsFront whole d new) same front in
    let kept : KeepsFront whole old new = record { contents = read.contents; stable = read.stable; appends = read.appends } in
    keeps_records old new records torn are (subst (λ (n : ℕ). KeepsFront n old new) (sym ends) kept)

-- a trim that gave up
pub trim_refused : (old mid new : Disk) (e : Fault) → mid ≡ read_once old → KeepsRecords old new → (e ≡ OutOfMemory) ⊎ (e ≡ Device)
    → (e ≡ OutOfMemory → new ≡ mid) → (e ≡ Device → mid.failures < new.failures) → IsNotOpened old e new
trim_refused old mid new e same kept (inl is) refused failed =
    let left = refused is ∙ same in
    subst (λ (f : Fault). IsNotOpened old f new) (sym is) (record {
      contents = ap (λ (d : Disk). d.contents) left;
      stable = ap (λ (d : Disk). d.stable) left;
      failures = ap (λ (d : Disk). d.failures) left;
      appends = ap (λ (d : Disk). d.appends) left;
      syncs = ap (λ (d : Disk). d.syncs) left;
      cuts = ap (λ (d : Disk). d.cuts) left;
    })
trim_refused old mid new e same kept (inr is) refused failed =
    let cause : old.failures < new.failures = subst (λ (d : Disk). d.failures < new.failures) same (failed is) in
    subst (λ (f : Fault). IsNotOpened old f new) (sym is) (kept, cause)

-- a sync after a trim that failed
pub opening_failed : (old new : Disk) (e : Fault) → e ≡ Device → KeepsRecords old new → old.failures < new.failures → IsNotOpened old e new
opening_failed old new e is kept cause = subst (λ (f : Fault). IsNotOpened old f new) (sym is) (kept, cause)

-- what holds of the fault, whatever was returned with it
pub at_fault : {T : Type 0} (old new : Disk) (e : Fault) (r : Result T Fault) → IsErrAnd r (λ fault. fault ≡ e) → IsNotOpened old e new → IfErr r (λ fault. IsNotOpened old fault new)
at_fault old new e (Ok x) is left = tt
at_fault old new e (Err f) is left = subst (λ (g : Fault). IsNotOpened old g new) (sym is) left

-- a read, a trim, and a sync that fails
pub opening_cause : {len torn : ℕ} (old read mid new : Disk) → read ≡ read_once old → IsTrimmed len torn read mid → SyncFailed mid new → old.failures < new.failures
opening_cause old read mid new same t f = let read_failures : read.failures ≡ old.failures = ap (λ (d : Disk). d.failures) same in omega (arith, read_failures, t.failures, f.cause)
