-- What represents a node's part once it stops or starts again.
use Rattle.std.proofs.Common.{◌≡◌, ℕ, min, Bool, true, false, Result, Ok, Err, Option, Some, List, [], length, take, inl, inr, refl, sym, ap, subst, ◌∙◌, arith}
use Rattle.std.proofs.lemmas.List.{length-take}
use Rattle.rp_base.specs.declared.action.Action.{Action}
use Rattle.rp_base.specs.declared.config.Config.{Config}
use Rattle.rp_base.specs.declared.fault.Fault.{Fault}
use Rattle.rp_base.specs.declared.fault.Fault.TheVariants.{OutOfMemory, Device}
use Rattle.rp_base.specs.declared.record.Rec.{Rec}
use Rattle.rp_base.specs.declared.reply.Answer.{Answer}
use Rattle.rp_store.specs.Disk.{Disk}
use Rattle.rp_store.specs.Records.{records_text, AreTextsOf, AreRecordsOf}
use Rattle.rp_store.proofs.Whole.{texts_long, whole_long, alone, no_records, same_reading}
use Rattle.rp_model.specs.Parts.{NodePart}
use Rattle.rp_model.specs.Parts.{Running as Known}
use Rattle.rp_model.specs.Effect.{goes_on_as, stop_part, stops_while, stop_effect, restart_while, restart_part}
use Rattle.rp_model.specs.Parts.{fresh_running, fresh_node, records_in_log}
use Rattle.rp_replica.specs.State.{ReplicaState, part_of}
use Rattle.rp_replica.specs.Opening.{Opens, IsRefusedOpening}
use Rattle.rp_replica.specs.Kept.{HoldsPart, HoldsOnly, HoldsItsRecords}
use Rattle.std.specs.Prelude.{IfOk, IfErr}
use Rattle.rp_actors.specs.declared.node.ClusterNode.{ClusterNode}
use Rattle.rp_actors.specs.declared.node.ClusterNode.TheVariants.{Running, Stopped}
use Rattle.rp_actors.specs.Nodes.{Member, RunsAs, RestsAs, RepresentsWhile, Represents, GoesBy, IsLeftTorn, IsNotStarted, DescribesOpened, failures_in, stored_length}

-- ---- a replica that runs, or has failed

module _ {S : Type 0} (member : Member S) (replica : ReplicaState S) (part : NodePart) where
  pub represents : RunsAs member replica part → RepresentsWhile member replica part replica.failed
  represents runs = subst (RepresentsWhile member replica part) (sym runs.working) runs

  pub represents_failed : replica.failed ≡ true → RestsAs member.config.max_positions replica.disk part → RepresentsWhile member replica part replica.failed
  represents_failed failed rests = subst (RepresentsWhile member replica part) (sym failed) rests

  pub as_running : replica.failed ≡ false → RepresentsWhile member replica part replica.failed → RunsAs member replica part
  as_running working is = subst (RepresentsWhile member replica part) working is

  pub as_resting : replica.failed ≡ true → RepresentsWhile member replica part replica.failed → RestsAs member.config.max_positions replica.disk part
  as_resting failed is = subst (RepresentsWhile member replica part) failed is

-- a node whose replica has not failed, and the machine that it runs
pub record NodeRuns (S D P : Type 0) : Type 0 where
  pub disk : D → Disk
  pub next : S → Action → S
  pub answers : S → Action → List Answer
  pub node : ClusterNode S D P
  pub replica : ReplicaState S
  pub is : node ≡ Running replica
  pub working : replica.failed ≡ false

abbrev pub node_runs : {S D P : Type 0} {node : ClusterNode S D P} {replica : ReplicaState S} {failed : Bool} (disk : D → Disk) (next : S → Action → S) (answers : S → Action → List Answer)
    → node ≡ Running replica → failed ≡ replica.failed → failed ≡ false → NodeRuns S D P
node_runs {node = node} {replica = replica} disk next answers is failed_is works =
    record { disk = disk; next = next; answers = answers; node = node; replica = replica; is = is; working = sym failed_is ∙ works }

-- it runs as the part that it represents
pub runs_as : {S D P : Type 0} (r : NodeRuns S D P) (member : Member S) (part : NodePart) → Represents r.disk member r.node part → RunsAs member r.replica part
runs_as r member part is = as_running member r.replica part r.working (subst (λ n. Represents r.disk member n part) r.is is)

-- what is so whatever was answered
pub if_err : {A : Type 0} {So : Type 0} (answer : Result A Fault) → So → IfErr answer (λ fault. So)
if_err (Ok stated) so = tt
if_err (Err fault) so = so

-- how many bytes a device holds that rests
pub resting_length : (most : ℕ) (disk : Disk) (part : NodePart) → RestsAs most disk part → length disk.contents ≡ stored_length part
resting_length most disk part rests =
    omega (arith, whole_long disk.contents part.records rests.only.torn rests.only.found, rests.only.bytes)

module _ {S : Type 0} (member : Member S) (old : Disk) (replica : ReplicaState S) (count cut_bytes : ℕ) (opens : Opens member.me member.config member.begin old replica count cut_bytes) where
  -- a replica that was opened is this part, where the device held no other records
  runs : (records : List Rec) → records ≡ records_in_log member.config.max_positions opens.all → records ≡ opens.all
      → RunsAs member replica (let part : NodePart = record { records = records; torn = 0; running = Some fresh_running } in part)
  runs records is only = record {
    node = ap (λ (h : ReplicaState S). h.me) opens.starts;
    config = ap (λ (h : ReplicaState S). h.config) opens.starts;
    begin = ap (λ (h : ReplicaState S). h.begin) opens.starts;
    working = ap (λ (h : ReplicaState S). h.failed) opens.starts;
    known = ap (λ (rs : List Rec). let part : NodePart = record { records = rs; torn = 0; running = Some fresh_running } in part) (is ∙ sym (ap (λ (h : ReplicaState S). h.records) opens.starts))
        ∙ ap (λ (known : Known). let part : NodePart = record { records = replica.records; torn = 0; running = Some known } in part) (sym (ap (λ (h : ReplicaState S). h.running) opens.starts));
    only = subst (λ (rs : List Rec). AreTextsOf rs replica.disk.contents) (sym only ∙ is ∙ sym (ap (λ (h : ReplicaState S). h.records) opens.starts))
        (alone replica.disk.contents opens.all opens.opened.kept);
  }

  -- over an empty device, a fresh one
  pub runs_fresh : old.contents ≡ [] → RunsAs member replica fresh_node
  runs_fresh empty =
      let found = subst (λ (l : List ℕ). AreRecordsOf l opens.all opens.opened.found.0) empty opens.opened.found.1 in
      let none : opens.all ≡ [] = sym (same_reading [] [] opens.opened.found.0 [] opens.all no_records found).0 in
      runs [] (ap (records_in_log member.config.max_positions) (sym none)) (sym none)

  -- over a device that rests, the part that starts again, and the numbers are its own
  pub starts_again : (part : NodePart) → RestsAs member.config.max_positions old part
      → RunsAs member replica (restart_part part).part × (let opened : Option (ℕ × ℕ) = Some (count, cut_bytes) in opened ≡ (restart_part part).opened)
  starts_again part rests =
      let same = same_reading old.contents rests.holds.torn opens.opened.found.0 rests.holds.all opens.all rests.holds.found opens.opened.found.1 in
      let records : part.records ≡ records_in_log member.config.max_positions opens.all = rests.holds.records ∙ ap (records_in_log member.config.max_positions) same.0 in
      let only : part.records ≡ opens.all = (same_reading old.contents rests.only.torn opens.opened.found.0 part.records opens.all rests.only.found opens.opened.found.1).0 in
      let counted : count ≡ length part.records = opens.counted ∙ ap length (sym only) in
      let cut : cut_bytes ≡ part.torn = opens.opened.found.2 ∙ ap length (sym same.1) ∙ sym rests.holds.bytes in (
        subst (λ (o : Option Known). RunsAs member replica (restart_while part o).part) (sym rests.stopped) (runs part.records records only),
        subst (λ (o : Option Known). let opened : Option (ℕ × ℕ) = Some (count, cut_bytes) in opened ≡ (restart_while part o).opened) (sym rests.stopped)
            (ap (λ (n : ℕ). let opened : Option (ℕ × ℕ) = Some (n, cut_bytes) in opened) counted ∙ ap (λ (n : ℕ). let opened : Option (ℕ × ℕ) = Some (length part.records, n) in opened) cut),
      )

-- a device that could not be opened
module _ (most : ℕ) (old new : Disk) (part : NodePart) (rests : RestsAs most old part) where
  same : part.records ≡ rests.holds.all
  same = (same_reading old.contents rests.only.torn rests.holds.torn part.records rests.holds.all rests.only.found rests.holds.found).0

  left : (kept : ℕ) (torn : List ℕ) → AreRecordsOf new.contents rests.holds.all torn → min kept part.torn ≡ length torn → RestsAs most new (record part { torn = min kept part.torn })
  left kept torn found size = record {
    holds = record { all = rests.holds.all; torn = torn; found = found; records = rests.holds.records; bytes = size };
    only = record { torn = torn; found = subst (λ (rs : List Rec). AreRecordsOf new.contents rs torn) (sym same) found; bytes = size };
    stopped = rests.stopped;
  }

  pub refused : (fault : Fault) → IsRefusedOpening old fault new → (kept : ℕ) × RestsAs most new (record part { torn = min kept part.torn })
  refused OutOfMemory why =
      elim why [
        | inl same ↦
            let e : min part.torn part.torn ≡ length rests.holds.torn = omega (arith, rests.holds.bytes) in
            (part.torn, left part.torn rests.holds.torn (subst (λ (l : List ℕ). AreRecordsOf l rests.holds.all rests.holds.torn) (sym same.contents) rests.holds.found) e)
        | inr opened ↦
            let is = opened.2 in
            let one = same_reading old.contents rests.holds.torn is.found.0 rests.holds.all opened.0 rests.holds.found is.found.1 in
            let e : min 0 part.torn ≡ 0 = omega arith in
            (0, left 0 [] (subst (λ (rs : List Rec). AreRecordsOf new.contents rs []) (sym one.0) is.kept) e)
      ]
  refused Device why =
      let kept = why.0.records rests.holds.all rests.holds.torn rests.holds.found in
      let e : min kept.0 part.torn ≡ length (take kept.0 rests.holds.torn) = ap (min kept.0) rests.holds.bytes ∙ sym (length-take kept.0 rests.holds.torn) in
      (kept.0, left kept.0 (take kept.0 rests.holds.torn) kept.1 e)
  refused _ why = absurd why

pub opening_counted : (old new : Disk) (fault : Fault) → IsRefusedOpening old fault new → IsNotStarted old.failures new.failures fault
opening_counted old new OutOfMemory why = inl (refl, elim why [ inl same ↦ same.failures | inr opened ↦ opened.2.failures ])
opening_counted old new Device why = inr (refl, why.1)
opening_counted old new _ why = absurd why

length_while : {S : Type 0} (member : Member S) (replica : ReplicaState S) (part : NodePart) (failed : Bool) → RepresentsWhile member replica part failed → length replica.disk.contents ≡ stored_length part
length_while member replica part true rests = resting_length member.config.max_positions replica.disk part rests
length_while member replica part false runs =
    let records : replica.records ≡ part.records = ap (λ (p : NodePart). p.records) (sym runs.known) in
    let torn : part.torn ≡ 0 = ap (λ (p : NodePart). p.torn) runs.known in
    omega (arith, texts_long replica.records replica.disk.contents runs.only, ap (λ (rs : List Rec). length (records_text rs)) records, torn)

-- how many bytes it holds
pub length_of : {S : Type 0} (member : Member S) (replica : ReplicaState S) (part : NodePart) → RepresentsWhile member replica part replica.failed → length replica.disk.contents ≡ stored_length part
length_of member replica part so = length_while member replica part replica.failed so

-- a replica that is closed
pub stops_as : {S : Type 0} (member : Member S) (replica : ReplicaState S) (disk : Disk) (part : NodePart) → RunsAs member replica part
    → (replica.failed ≡ false → HoldsPart replica.config.max_positions disk (stop_part (part_of replica)))
    → (replica.failed ≡ false → HoldsItsRecords replica → HoldsOnly disk (stop_part (part_of replica)))
    → (stop_effect part ≡ Ok (goes_on_as (stop_part part))) × RestsAs member.config.max_positions disk (stop_part part)
stops_as {S = S} member replica disk part runs holds only = (
  ap (stops_while part) (ap (λ (p : NodePart). p.running) runs.known),
  record {
    holds = subst (λ (p : NodePart). HoldsPart member.config.max_positions disk (stop_part p)) (sym runs.known)
        (subst (λ (c : Config). HoldsPart c.max_positions disk (stop_part (part_of replica))) runs.config (holds runs.working));
    only = subst (λ (p : NodePart). HoldsOnly disk (stop_part p)) (sym runs.known) (only runs.working runs.only);
    stopped = refl;
  },
)

-- a replica that runs goes on
pub goes_on_running : {S : Type 0} (member : Member S) (replica : ReplicaState S) (part : NodePart) → RunsAs member replica part → restart_part part ≡ goes_on_as part
goes_on_running member replica part runs = ap (restart_while part) (ap (λ (p : NodePart). p.running) runs.known)

-- a node that rests on its device: one whose replica has failed, or that is stopped
pub rests_failed : {S D P : Type 0} (disk : D → Disk) (member : Member S) {node : ClusterNode S D P} {replica : ReplicaState S} {failed : Bool} {device : Disk} → node ≡ Running replica → failed ≡ replica.failed → failed ≡ true → device ≡ replica.disk
    → (part : NodePart) → Represents disk member node part → RestsAs member.config.max_positions device part
rests_failed disk member {replica = replica} is failed_is failed same part represents_it =
    subst (λ (d : Disk). RestsAs member.config.max_positions d part) (sym same)
    (as_resting member replica part (sym failed_is ∙ failed) (subst (λ n. Represents disk member n part) is represents_it))

pub rests_stopped : {S D P : Type 0} (disk : D → Disk) (member : Member S) {node : ClusterNode S D P} {device : D} → node ≡ Stopped device
    → (part : NodePart) → Represents disk member node part → RestsAs member.config.max_positions (disk device) part
rests_stopped disk member is part represents_it = subst (λ n. Represents disk member n part) is represents_it

-- a node that starts over the device that it rested on
module _ {S D P : Type 0} (disk : D → Disk) (member : Member S) (old new : ClusterNode S D P) (device : Disk)
    (as_often : device.failures ≡ failures_in disk old) (rests : (part : NodePart) → Represents disk member old part → RestsAs member.config.max_positions device part) where
  pub started : (answer : Result (Option (ℕ × ℕ)) Fault)
      → IfOk answer (λ opened. (part : NodePart) → RestsAs member.config.max_positions device part → Represents disk member new (restart_part part).part × DescribesOpened opened (restart_part part) × (failures_in disk new ≡ device.failures))
      → IfOk answer (λ opened. GoesBy disk member old new (λ part. Ok (restart_part part)) DescribesOpened opened)
  started (Ok opened) is = λ part so.
      let after = is part (rests part so) in
      (restart_part part, refl, after.0, after.1, after.2 ∙ as_often)
  started (Err fault) is = tt

  pub not_started : (answer : Result (Option (ℕ × ℕ)) Fault)
      → IfErr answer (λ fault. (part : NodePart) → RestsAs member.config.max_positions device part → (kept : ℕ) × Represents disk member new (record part { torn = min kept part.torn }))
      → IfErr answer (λ fault. IsLeftTorn disk member old new)
  not_started (Ok opened) is = tt
  not_started (Err fault) is = λ part so. is part (rests part so)

  pub why_not_started : (answer : Result (Option (ℕ × ℕ)) Fault) → IfErr answer (IsNotStarted device.failures (failures_in disk new)) → IfErr answer (IsNotStarted (failures_in disk old) (failures_in disk new))
  why_not_started answer why = subst (λ (k : ℕ). IfErr answer (IsNotStarted k (failures_in disk new))) as_often why
