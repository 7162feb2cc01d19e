-- What a replica's turn is for the node's part.
use Rattle.std.proofs.Common.{◌≡◌, ◌<◌, ℕ, zero, suc, slice_get, arith, Bool, true, false, if◌then◌else◌, Option, Some, None, Result, Ok, Err, List, [], ◌∷◌, ◌++◌, length, ◌⊎◌, inl, inr, refl, sym, ap, subst, ◌∙◌}
use Rattle.std.specs.Prelude.{nat_le, IfOk, IfErr, IsSome, OnErr}
use Rattle.rp_base.specs.declared.action.Action.{Action}
use Rattle.rp_base.specs.declared.config.Config.{Config}
use Rattle.rp_base.specs.declared.fault.Fault.{Fault}
use Rattle.rp_base.specs.declared.fault.Fault.TheVariants.{OutOfMemory, Device, Failed}
use Rattle.rp_base.specs.declared.record.Rec.{Rec}
use Rattle.rp_base.specs.declared.reply.Answer.{Answer}
use Rattle.rp_codec.specs.Message.{Message}
use Rattle.rp_codec.specs.Record.{record_text}
use Rattle.rp_store.specs.Disk.{Disk}
use Rattle.rp_store.specs.Records.{AreTextsOf}
use Rattle.rp_codec.specs.declared.version.Version.TheVariants.{V2}
use Rattle.rp_codec.proofs.RecordLaws.{has_latest}
use Rattle.rp_store.proofs.Whole.{texts_end}
use Rattle.rp_model.specs.Parts.{NodePart}
use Rattle.rp_model.specs.Parts.{Turn, with_record}
use Rattle.rp_model.specs.Effect.{Setting, Done, NodeInput, running_effect, turn_done, turn_done_if, node_effect, cut_part, stop_part}
use Rattle.rp_model.specs.declared.effect.Dropped.{Dropped}
use Rattle.rp_replica.specs.declared.sent.Sent.{Sent}
use Rattle.rp_replica.specs.State.{ReplicaState, part_of, setting_of, with_text, after_turn}
use Rattle.rp_replica.specs.Kept.{HoldsPart, HoldsOnly, HoldsItsRecords, HoldsCut}
use Rattle.rp_replica.specs.rp_rules.specs.declared.input.Input.{Input}
use Rattle.rp_replica.specs.Inputs.{effect_if_given, input_effect, replica_effect}
use Rattle.rp_replica.specs.rp_rules.specs.Inputs.{given_by}
use Rattle.rp_replica.specs.Turning.{AnswersOnto, TurnsIf, TurnsOnto, FailsAt, Stops, StopsIf, IsRefused}
use Rattle.rp_replica.specs.Cutting.{CutsIf, IsNotCutIf, cut_disk}
use Rattle.rp_replica.specs.declared.cut.NotCut.{NotCut}
use Rattle.rp_replica.specs.declared.cut.NotCut.TheVariants.{Failed as DeviceFailed, Refused}
use Rattle.rp_actors.specs.declared.node.ClusterNode.{ClusterNode}
use Rattle.rp_actors.specs.declared.node.ClusterNode.TheVariants.{Running, Stopped}
use Rattle.rp_actors.specs.Nodes.{Member, RunsAs, RestsAs, setting_at, node_step, IsNotRefused, RepresentsWhile, Represents, HasNotFailed, GoesBy, IsCutBy, NotTaken, DescribesSent, DescribesSending, failures_in}
use Rattle.rp_actors.proofs.Represented.{NodeRuns, represents, represents_failed, runs_as}

some_of : {A : Type 0} (o : Option A) (x : A) → o ≡ Some x → IsSome o
some_of {A = A} o x is = subst IsSome (sym is) refl

-- a node that was cut is stopped
cut_stopped : (kept : ℕ) (part : NodePart) (written : Option Rec) → (cut_part kept part written).running ≡ None
cut_stopped kept part None = refl
cut_stopped kept part (Some rec) =
    elim (nat_le (length (record_text rec)) kept) as (λ b. let left : NodePart = if b then stop_part (record part { records = part.records ++ rec ∷ [] }) else stop_part (record part { torn = kept }) in left.running ≡ None) [
      | true ↦ refl
      | false ↦ refl
    ]

-- texts of the records with one more after them
holds_more : (disk : Disk) (records : List Rec) (written : Option Rec) → AreTextsOf records disk.contents → AreTextsOf (with_record records written) (with_text disk written).contents
holds_more disk records None only = only
holds_more disk records (Some rec) only = texts_end records rec V2 disk.contents (has_latest rec) only

-- a record that is written, or torn, is no failure
written_counted : (disk : Disk) (written : Option Rec) → (with_text disk written).failures ≡ disk.failures
written_counted disk None = refl
written_counted disk (Some rec) = refl

torn_counted : (kept : ℕ) (disk : Disk) (written : Option Rec) → (cut_disk kept disk written).failures ≡ disk.failures
torn_counted kept disk None = refl
torn_counted kept disk (Some rec) = refl

module _ {S : Type 0} (next : S → Action → S) (answers : S → Action → List Answer) (member : Member S) (old : ReplicaState S) (part : NodePart) (runs : RunsAs member old part) where
  -- an input has the same result for the part and for the replica
  pub same_effect : (input : NodeInput) → node_effect (setting_at next answers member) member.me part input ≡ turn_done_if part (replica_effect next answers old input)
  same_effect input =
      let setting : setting_of next answers old ≡ setting_at next answers member =
      ap (λ (c : Config). let s : Setting S = record { config = c; next = next; answers = answers; begin = old.begin } in s) runs.config
      ∙ ap (λ (b : S). let s : Setting S = record { config = member.config; next = next; answers = answers; begin = b } in s) runs.begin in
      subst (λ (p : NodePart). node_effect (setting_at next answers member) member.me p input ≡ turn_done_if p (replica_effect next answers old input)) (sym runs.known)
      (ap (λ (s : Setting S). turn_done_if (part_of old) (running_effect s member.me old.records old.running input)) (sym setting)
      ∙ ap (λ (k : ℕ). turn_done_if (part_of old) (running_effect (setting_of next answers old) k old.records old.running input)) (sym runs.node))

  -- a turn that took effect
  runs_on : (new : ReplicaState S) (turn : Turn) → new ≡ after_turn old turn → RunsAs member new (turn_done part turn).part
  runs_on new turn goes = record {
    node = ap (λ (h : ReplicaState S). h.me) goes ∙ runs.node;
    config = ap (λ (h : ReplicaState S). h.config) goes ∙ runs.config;
    begin = ap (λ (h : ReplicaState S). h.begin) goes ∙ runs.begin;
    working = ap (λ (h : ReplicaState S). h.failed) goes ∙ runs.working;
    known = ap (λ (p : NodePart). (turn_done p turn).part) runs.known ∙ sym (ap part_of goes);
    only = subst HoldsItsRecords (sym goes) (holds_more old.disk old.records turn.written runs.only);
  }

  -- a replica that stays as it was
  pub stays : (new : ReplicaState S) → new ≡ old → RunsAs member new part
  stays new same = subst (λ (h : ReplicaState S). RunsAs member h part) (sym same) runs

  -- what its device holds where the node stopped within a turn
  pub is_cut : (kept : ℕ) (written : Option Rec) (disk : Disk) → HoldsCut kept old disk written
      → RestsAs member.config.max_positions disk (cut_part kept part written)
  is_cut kept written disk holds = record {
    holds = subst (λ (p : NodePart). HoldsPart member.config.max_positions disk (cut_part kept p written)) (sym runs.known)
        (subst (λ (c : Config). HoldsPart c.max_positions disk (cut_part kept (part_of old) written)) runs.config holds.left);
    only = subst (λ (p : NodePart). HoldsOnly disk (cut_part kept p written)) (sym runs.known) (holds.only runs.only);
    stopped = cut_stopped kept part written;
  }

  -- what was answered, if it was taken
  pub taken : (input : NodeInput) (new : ReplicaState S) (sent : Sent) (turn : Result Turn Fault) → replica_effect next answers old input ≡ turn → TurnsIf turn old new sent
      → (done : Done NodePart) × (node_effect (setting_at next answers member) member.me part input ≡ Ok done) × RunsAs member new done.part × DescribesSent sent done
  taken input new sent (Ok turn) is turns = (
    turn_done part turn,
    same_effect input ∙ ap (turn_done_if part) is,
    runs_on new turn turns.0.goes,
    record { bytes = turns.0.bytes; packets = turns.0.packets; dropped = turns.0.dropped; nothing = (refl, refl) },
  )
  taken input new sent (Err refusal) is turns = absurd turns

  -- and what was sent after others
  pub taken_onto : (input : NodeInput) (new : ReplicaState S) (before after : List Message) (dropped : Dropped) (turn : Result Turn Fault) → replica_effect next answers old input ≡ turn → TurnsOnto turn old new before after dropped
      → (done : Done NodePart) × (node_effect (setting_at next answers member) member.me part input ≡ Ok done) × RunsAs member new done.part × DescribesSending before after dropped done × (new.disk.failures ≡ old.disk.failures)
  taken_onto input new before after dropped (Ok turn) is turns = (
    turn_done part turn,
    same_effect input ∙ ap (turn_done_if part) is,
    runs_on new turn turns.0.goes,
    record { sent = turns.0.sent; is_dropped = turns.1; nothing = (refl, refl) },
    ap (λ (h : ReplicaState S). h.disk.failures) turns.0.goes ∙ written_counted old.disk turn.written,
  )
  taken_onto input new before after dropped (Err refusal) is turns = absurd turns

pub false_true : {b : Bool} → b ≡ false → b ≡ true → ⊥
false_true one other = absurd cc

-- ---- a step of a node that runs

module _ {S D P : Type 0} (r : NodeRuns S D P) (input : NodeInput) where
  abbrev old : ReplicaState S
  old = r.replica

  abbrev effect : Result Turn Fault
  effect = replica_effect r.next r.answers r.replica input

  abbrev step : Member S → NodePart → Result (Done NodePart) Fault
  step member part = node_step r.next r.answers member input part

  -- how often its device had failed
  was_counted : old.disk.failures ≡ failures_in r.disk r.node
  was_counted = ap (failures_in r.disk) (sym r.is)

  taken_by : (new : ReplicaState S) (sent later : List Message) (dropped : Dropped) → TurnsOnto effect old new sent later dropped → (member : Member S)
      → GoesBy r.disk member r.node (Running new) (step member) (DescribesSending sent later) dropped
  taken_by new sent later dropped turns member part is =
      let t = taken_onto r.next r.answers member old part (runs_as r member part is) input new sent later dropped effect refl turns in
      (t.0, t.1, represents member new t.0.part t.2, t.3, t.4 ∙ was_counted)

  module _ (member : Member S) (part : NodePart) (is : Represents r.disk member r.node part) where
    runs : RunsAs member old part
    runs = runs_as r member part is

    -- how the step was not taken, and left the node so
    abbrev NotTakenHere : ClusterNode S D P → Fault → Type 0
    NotTakenHere n fault =
        ((step member part ≡ Err fault) × Represents r.disk member n part × HasNotFailed r.disk member r.node n)
        ⊎ (((fault ≡ OutOfMemory) × IsNotRefused (step member part) × Represents r.disk member n part × HasNotFailed r.disk member r.node n)
        ⊎ ((fault ≡ Device) × (kept : ℕ) × (done : Done NodePart) × (step member part ≡ Ok done) × Represents r.disk member n (cut_part kept part done.written) × IsSome done.written
        × (failures_in r.disk r.node < failures_in r.disk n)))

    not_refused : (turn : Turn) → effect ≡ Ok turn → step member part ≡ Ok (turn_done part turn)
    not_refused turn resulted = same_effect r.next r.answers member old part runs input ∙ ap (turn_done_if part) resulted

    -- what some cut of the turn leaves on the device
    rests_cut : (turn : Turn) (kept : ℕ) (d : Disk) → HoldsCut kept old d turn.written
        → RestsAs member.config.max_positions d (cut_part kept part (turn_done part turn).written)
    rests_cut turn kept d holds = is_cut r.next r.answers member old part runs kept turn.written d holds

    module _ (new : ReplicaState S) where
      stays_so : new ≡ old → RepresentsWhile member new part new.failed
      stays_so same = subst (λ (h : ReplicaState S). RepresentsWhile member h part h.failed) (sym same) (represents member old part runs)

      counts_so : new ≡ old → new.disk.failures ≡ failures_in r.disk r.node
      counts_so same = ap (λ (h : ReplicaState S). h.disk.failures) same ∙ was_counted

      fails_so : (turn : Turn) → effect ≡ Ok turn → FailsAt turn.written old new → NotTakenHere (Running new) Device
      fails_so turn resulted fails =
          let kept = fails.holds.0 in
          inr (inr (
            refl,
            kept,
            turn_done part turn,
            not_refused turn resulted,
            represents_failed member new (cut_part kept part turn.written) (ap (λ (h : ReplicaState S). h.failed) fails.goes) (rests_cut turn kept new.disk fails.holds.1),
            some_of turn.written fails.rec fails.is,
            subst (λ (k : ℕ). k < new.disk.failures) was_counted fails.disk.cause,
          ))

      stops_so : (turn : Turn) → effect ≡ Ok turn → (fault : Fault) → Stops turn.written old new fault → NotTakenHere (Running new) fault
      stops_so turn resulted OutOfMemory stops = inr (inl (refl, subst IsNotRefused (sym (not_refused turn resulted)) tt, stays_so stops.0, counts_so stops.0))
      stops_so turn resulted Device stops = fails_so turn resulted stops.0
      stops_so turn resulted Failed stops = absurd (false_true r.working stops.1)
      stops_so turn resulted _ stops = absurd stops

      refused_so : (refusal fault : Fault) → effect ≡ Err refusal → IsRefused refusal old new fault → NotTakenHere (Running new) fault
      refused_so refusal fault resulted stops =
          elim stops.1 [
            | inl stated ↦
                let refuses : step member part ≡ Err fault = same_effect r.next r.answers member old part runs input ∙ ap (turn_done_if part) resulted ∙ ap Err (sym stated.0) in
                inl (refuses, stays_so stops.0, counts_so stops.0)
            | inr gone ↦ absurd (false_true r.working gone.1)
          ]

      by_effect : (e : Result Turn Fault) → effect ≡ e → (fault : Fault) → StopsIf e old new fault → NotTakenHere (Running new) fault
      by_effect (Ok turn) resulted fault stops = stops_so turn resulted fault stops
      by_effect (Err refusal) resulted fault stops = refused_so refusal fault resulted stops

    -- a step that was cut
    cut_by : (e : Result Turn Fault) → effect ≡ e → (kept : ℕ) (device : D) → CutsIf e kept old (r.disk device)
        → (done : Done NodePart) × (step member part ≡ Ok done) × RestsAs member.config.max_positions (r.disk device) (cut_part kept part done.written) × ((r.disk device).failures ≡ failures_in r.disk r.node)
    cut_by (Ok turn) resulted kept device cuts = (
      turn_done part turn,
      not_refused turn resulted,
      rests_cut turn kept (r.disk device) cuts.holds,
      ap (λ (d : Disk). d.failures) cuts.disk_is ∙ torn_counted kept old.disk turn.written ∙ was_counted,
    )
    cut_by (Err refusal) resulted kept device cuts = absurd cuts

    -- or was not
    fails_in_cut : (e : Result Turn Fault) → effect ≡ e → (device : D) → IsNotCutIf r.disk e old (let n : NotCut S D P = DeviceFailed device in n) → NotTakenHere (Stopped device) Device
    fails_in_cut (Ok turn) resulted device fails =
        let kept = fails.holds.0 in
        inr (inr (
          refl,
          kept,
          turn_done part turn,
          not_refused turn resulted,
          rests_cut turn kept (r.disk device) fails.holds.1,
          some_of turn.written fails.rec fails.is,
          subst (λ (k : ℕ). k < (r.disk device).failures) was_counted fails.disk_is.cause,
        ))
    fails_in_cut (Err refusal) resulted device fails = absurd fails

    refused_cut : (e : Result Turn Fault) → effect ≡ e → (fault : Fault) (new : ReplicaState S) → IsNotCutIf r.disk e old (let n : NotCut S D P = Refused fault new in n) → NotTakenHere (Running new) fault
    refused_cut (Ok turn) resulted fault new stops = by_effect new (Ok turn) resulted fault stops.0
    refused_cut (Err refusal) resulted fault new stops = refused_so new refusal fault resulted stops

  -- a step that was not taken
  not_answered : (new : ReplicaState S) (fault : Fault) → StopsIf effect old new fault → (member : Member S) → NotTaken r.disk member r.node (Running new) (step member) fault
  not_answered new fault stops = λ member part is. by_effect member part is new effect refl fault stops

-- ---- what was answered to each input of which this is so

module _ {S D P : Type 0} (r : NodeRuns S D P) {A : Type 0} (input : A → NodeInput) (Q : A → Type 0) (new : ReplicaState S) (sent later : List Message) where
  abbrev pub Each : Result Dropped Fault → Type 0
  Each answer = (a : A) → Q a → AnswersOnto (replica_effect r.next r.answers r.replica (input a)) r.replica new sent later answer

  pub each_ok : (answer : Result Dropped Fault) → Each answer
      → IfOk answer (λ dropped. (member : Member S) (a : A) → Q a → GoesBy r.disk member r.node (Running new) (node_step r.next r.answers member (input a)) (DescribesSending sent later) dropped)
  each_ok (Ok dropped) each = λ member a q. taken_by r (input a) new sent later dropped (each a q) member
  each_ok (Err fault) each = tt

  pub each_err : (answer : Result Dropped Fault) → Each answer
      → IfErr answer (λ fault. (member : Member S) (a : A) → Q a → NotTaken r.disk member r.node (Running new) (node_step r.next r.answers member (input a)) fault)
  each_err (Ok dropped) each = tt
  each_err (Err fault) each = λ member a q. let stops = each a q in not_answered r (input a) new fault stops.0 member

-- nothing was sent where it was not taken
pub unsent : {S : Type 0} (effect : Result Turn Fault) (old new : ReplicaState S) (sent later : List Message) (answer : Result Dropped Fault) → AnswersOnto effect old new sent later answer → OnErr answer (later ≡ sent)
unsent effect old new sent later (Ok dropped) turns = tt
unsent effect old new sent later (Err fault) stops = stops.1

-- a message that was sent is at each place below the last
pub got_at : (ms : List Message) (place : ℕ) → place < length ms → (m : Message) × (slice_get ms place ≡ Some m)
got_at [] place less = absurd (omega (arith, less))
got_at (m ∷ ms) zero less = (m, refl)
got_at (m ∷ ms) (suc k) less = got_at ms k (omega (arith, less))

-- ---- an input that gives this to the node

module _ {S D P : Type 0} (r : NodeRuns S D P) (input : Input) where
  same_input : (given : NodeInput) → given_by input ≡ Ok given → input_effect r.next r.answers r.replica input ≡ replica_effect r.next r.answers r.replica given
  same_input given is = ap (effect_if_given r.next r.answers r.replica) is

  pub each_given : (new : ReplicaState S) (sent later : List Message) (answer : Result Dropped Fault) → AnswersOnto (input_effect r.next r.answers r.replica input) r.replica new sent later answer
      → Each r (λ given. given) (λ given. given_by input ≡ Ok given) new sent later answer
  each_given new sent later answer answered given is = subst (λ (t : Result Turn Fault). AnswersOnto t r.replica new sent later answer) (same_input given is) answered

  -- a step that was cut, or was not
  pub is_cut_so : (kept : ℕ) (device : D) → CutsIf (input_effect r.next r.answers r.replica input) kept r.replica (r.disk device)
      → (member : Member S) (given : NodeInput) → given_by input ≡ Ok given → IsCutBy r.disk member r.node (Stopped device) kept (node_step r.next r.answers member given)
  is_cut_so kept device cuts member given gives part is =
      cut_by r given member part is (replica_effect r.next r.answers r.replica given) refl kept device (subst (λ (t : Result Turn Fault). CutsIf t kept r.replica (r.disk device)) (same_input given gives) cuts)

  pub failed_in_cut : (device : D) → IsNotCutIf r.disk (input_effect r.next r.answers r.replica input) r.replica (let n : NotCut S D P = DeviceFailed device in n)
      → (member : Member S) (given : NodeInput) → given_by input ≡ Ok given → NotTaken r.disk member r.node (Stopped device) (node_step r.next r.answers member given) Device
  failed_in_cut device fails member given gives part is =
      fails_in_cut r given member part is (replica_effect r.next r.answers r.replica given) refl device
      (subst (λ (t : Result Turn Fault). IsNotCutIf r.disk t r.replica (let n : NotCut S D P = DeviceFailed device in n)) (same_input given gives) fails)

  pub refused_in_cut : (fault : Fault) (new : ReplicaState S) → IsNotCutIf r.disk (input_effect r.next r.answers r.replica input) r.replica (let n : NotCut S D P = Refused fault new in n)
      → (member : Member S) (given : NodeInput) → given_by input ≡ Ok given → NotTaken r.disk member r.node (Running new) (node_step r.next r.answers member given) fault
  refused_in_cut fault new stops member given gives part is =
      refused_cut r given member part is (replica_effect r.next r.answers r.replica given) refl fault new
      (subst (λ (t : Result Turn Fault). IsNotCutIf r.disk t r.replica (let n : NotCut S D P = Refused fault new in n)) (same_input given gives) stops)
