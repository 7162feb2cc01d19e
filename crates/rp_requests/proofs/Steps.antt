-- A step of a node over a device that never fails, and the answer that is put for it.
use Rattle.std.proofs.Common.{◌≡◌, ℕ, ◌<◌, ◌≤◌, Bool, true, false, Option, Some, None, Result, Ok, Err, List, [], length, drop, refl, sym, ap, subst, ◌∙◌, arith, nat_eq}
use Rattle.std.proofs.lemmas.List.{drop_at, drop_all}
use Rattle.rp_base.specs.declared.fault.Fault.{Fault}
use Rattle.rp_base.specs.declared.fault.Fault.TheVariants as faults
use Rattle.rp_base.specs.declared.record.Rec.{Rec}
use Rattle.rp_codec.specs.Record.{record_text}
use Rattle.rp_replica.specs.rp_store.specs.Disk.{Disk}
use Rattle.rp_codec.specs.Message.{Message}
use Rattle.rp_replica.specs.rp_model.specs.Parts.{Turn}
use Rattle.rp_replica.specs.rp_model.specs.declared.effect.Dropped.{Dropped}
use Rattle.rp_replica.specs.rp_outbox.specs.Packets.{ends_of, texts_of}
use Rattle.rp_replica.specs.State.{ReplicaState, after_turn, with_text}
use Rattle.rp_replica.specs.Turning.{StopsIf, TurnsOnto}
use Rattle.rp_requests.specs.declared.buffer.Lengths.{Lengths}
use Rattle.rp_requests.specs.Buffers.{IsPutInFront, IsTooLongForBuffer}
use Rattle.std.specs.Prelude.{◌&&◌}
use Rattle.rp_requests.specs.declared.not_taken.NotTaken.{NotTaken}
use Rattle.rp_requests.specs.declared.refusal.Refusal.{Refusal}
use Rattle.rp_requests.specs.declared.refusal.Refusal.TheVariants as refusals
use Rattle.rp_requests.specs.Nodes.{applied_count, after_early, not_taken, GivenAnswers, IsSame, NodeState, StepAnswers, StepMade, StepPut, StepTooLong, step_bytes, step_refusal, stored_by}

-- what a record puts on a device is after what it held
added : (disk : Disk) (written : Option Rec) → drop (length disk.contents) (with_text disk written).contents ≡ stored_by written
added disk None = drop_all (length disk.contents) disk.contents (let same : length disk.contents ≤ length disk.contents = omega arith in same)
added disk (Some rec) = drop_at disk.contents (record_text rec) (length disk.contents) refl

-- over a device that never fails, a step that is refused changes nothing
pub unmoved : {S : Type 0} (effect : Result Turn Fault) (old new : ReplicaState S) (fault : Fault) → StopsIf effect old new fault → new.disk.failures ≡ 0 → new ≡ old
unmoved (Err refusal) old new fault stops never = stops.0
unmoved (Ok turn) old new faults.OutOfMemory stops never = stops.0
unmoved (Ok turn) old new faults.Failed stops never = stops.0
unmoved (Ok turn) old new faults.Device stops never = let cause = stops.0.disk.cause in absurd (omega (arith, cause, never))
unmoved (Ok turn) old new (faults.BadPacket reason) stops never = absurd stops
unmoved (Ok turn) old new faults.NotRunning stops never = absurd stops
unmoved (Ok turn) old new faults.BallotsSpent stops never = absurd stops
unmoved (Ok turn) old new faults.LogFull stops never = absurd stops
unmoved (Ok turn) old new faults.NoSuchMessage stops never = absurd stops
unmoved (Ok turn) old new faults.TaskBusy stops never = absurd stops
unmoved (Ok turn) old new faults.NumbersSpent stops never = absurd stops
unmoved (Ok turn) old new (faults.BadDeck line reason) stops never = absurd stops
unmoved (Ok turn) old new faults.BadConfig stops never = absurd stops
unmoved (Ok turn) old new faults.Io stops never = absurd stops

-- a node with this replica, and the answer of a step: its record begins here, and these are its packets
abbrev pub node_with : {S : Type 0} → ReplicaState S → ℕ → List Message → NotTaken → Bool → NodeState S
node_with replica from sent missed early = record {
  replica = replica;
  stored = drop from replica.disk.contents;
  packets = texts_of sent;
  ends = ends_of 0 sent;
  not_taken = missed;
  had_early = early;
}

module _ {S : Type 0} (old : NodeState S) (replica : ReplicaState S) where
  -- whether a call came that could not count, once the step took effect
  abbrev pub early_after : Bool
  early_after = old.had_early && nat_eq (applied_count replica) (applied_count old.replica)

  took : (effect : Result Turn Fault) (stale : Bool) (sent : List Message) (dropped : Dropped) → TurnsOnto effect old.replica replica [] sent dropped
      → StepMade effect stale old (node_with replica (length old.replica.disk.contents) sent (not_taken stale dropped) early_after)
  took (Ok turn) stale sent dropped turns =
      let goes : replica ≡ after_turn old.replica turn = turns.0.goes in
      let stored : drop (length old.replica.disk.contents) replica.disk.contents ≡ stored_by turn.written =
      ap (λ (r : ReplicaState S). drop (length old.replica.disk.contents) r.disk.contents) goes ∙ added old.replica.disk turn.written in
      let all : sent ≡ turn.sent = turns.0.sent in
      record {
        turn = turn;
        takes = refl;
        goes = λ i. record {
          replica = goes i;
          stored = stored i;
          packets = texts_of (all i);
          ends = ends_of 0 (all i);
          not_taken = not_taken stale (turns.1 i);
          had_early = old.had_early && nat_eq (applied_count (goes i)) (applied_count old.replica);
        };
      }
  took (Err refusal) stale sent dropped turns = absurd turns

  -- its record begins where the device ended
  pub made : (from : ℕ) → from ≡ length old.replica.disk.contents → (effect : Result Turn Fault) (stale : Bool) (before sent : List Message) → before ≡ [] → (dropped : Dropped)
      → TurnsOnto effect old.replica replica before sent dropped → StepMade effect stale old (node_with replica from sent (not_taken stale dropped) early_after)
  made from begins effect stale before sent none dropped turns =
      subst (λ (n : ℕ). StepMade effect stale old (node_with replica n sent (not_taken stale dropped) early_after)) (sym begins)
      (took effect stale sent dropped (subst (λ (b : List Message). TurnsOnto effect old.replica replica b sent dropped) none turns))

module _ {S : Type 0} (effect : Result Turn Fault) (stale : Bool) (old new : NodeState S) (before after : List ℕ) where
  pub step_put : (lengths : Lengths) → step_bytes ≤ length before → StepMade effect stale old new → IsPutInFront new.stored new.packets before after lengths → StepPut effect stale old new before after lengths
  step_put lengths room done put = record {
    room = room;
    turn = done.turn;
    takes = done.takes;
    goes = done.goes;
    put = subst (λ (n : NodeState S). IsPutInFront n.stored n.packets before after lengths) done.goes put;
  }

  pub step_too_long : (needed : ℕ) → step_bytes ≤ length before → StepMade effect stale old new → IsTooLongForBuffer new.stored new.packets before after needed → StepTooLong effect stale old new before after needed
  step_too_long needed room done long = record {
    room = room;
    turn = done.turn;
    takes = done.takes;
    goes = done.goes;
    long = subst (λ (n : NodeState S). IsTooLongForBuffer n.stored n.packets before after needed) done.goes long;
  }

  -- a step that was refused for a fault
  pub refused : (at_end : Bool) (fault : Fault) → IsSame old new before after → step_bytes ≤ length before → StopsIf effect old.replica old.replica fault
      → StepAnswers effect at_end stale old new before after (Err (step_refusal at_end fault))
  refused true fault same room why = (same, room, why, refl)
  refused false faults.LogFull same room why = (same, room, why, refl)
  refused false faults.OutOfMemory same room why = (same, room, why, refl)
  refused false faults.Device same room why = (same, room, why, refl)
  refused false faults.Failed same room why = (same, room, why, refl)
  refused false (faults.BadPacket reason) same room why = (same, room, why, refl)
  refused false faults.NotRunning same room why = (same, room, why, refl)
  refused false faults.BallotsSpent same room why = (same, room, why, refl)
  refused false faults.NoSuchMessage same room why = (same, room, why, refl)
  refused false faults.TaskBusy same room why = (same, room, why, refl)
  refused false faults.NumbersSpent same room why = (same, room, why, refl)
  refused false (faults.BadDeck line reason) same room why = (same, room, why, refl)
  refused false faults.BadConfig same room why = (same, room, why, refl)
  refused false faults.Io same room why = (same, room, why, refl)

-- ---- a call that comes early, and what does not

module _ {S : Type 0} (effect : Result Turn Fault) (at_end stale : Bool) (old new : NodeState S) (before after : List ℕ) where
  pub passed_over : (early : Bool) → early ≡ true → new ≡ after_early old → step_bytes ≤ length before → after ≡ before → GivenAnswers early effect at_end stale old new before after (Ok (record { stored = 0; used = 0 }))
  passed_over early is same room kept =
      subst (λ (b : Bool). GivenAnswers b effect at_end stale old new before after (Ok (record { stored = 0; used = 0 }))) (sym is)
      (same, room, record { front = kept; stored_is = refl; used_is = refl })

  pub not_early : (early : Bool) → early ≡ false → (result : Result Lengths Refusal) → StepAnswers effect at_end stale old new before after result → GivenAnswers early effect at_end stale old new before after result
  not_early early is result answers = subst (λ (b : Bool). GivenAnswers b effect at_end stale old new before after result) (sym is) answers

  pub too_short : (early : Bool) → IsSame old new before after → length before < step_bytes → GivenAnswers early effect at_end stale old new before after (Err (refusals.ShortAnswer step_bytes))
  too_short true same short = (same, short, refl)
  too_short false same short = (same, short, refl)
