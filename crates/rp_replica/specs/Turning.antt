-- What a call of a replica results in.
use Rattle.std.specs.Prelude.{◌≡◌, ◌⊎◌, ℕ, true, false, Option, Some, Result, Ok, Err, List, length}
use Rattle.std.specs.Prelude.{IsOk}
use Rattle.rp_base.specs.declared.fault.Fault.{Fault}
use Rattle.rp_base.specs.declared.fault.Fault.TheVariants.{OutOfMemory, Device, Failed}
use Rattle.rp_base.specs.declared.record.Rec.{Rec}
use Rattle.rp_codec.specs.Record.{record_text}
use Rattle.rp_store.specs.Disk.{AppendFailed}
use Rattle.rp_model.specs.Parts.{Turn}
use Rattle.rp_codec.specs.Message.{Message}
use Rattle.rp_model.specs.declared.effect.Dropped.{Dropped}
use Rattle.rp_replica.specs.Committing.{Commits}
use Rattle.rp_replica.specs.declared.sent.Sent.{Sent}
use Rattle.rp_outbox.specs.Packets.{texts_of}
use Rattle.rp_rules.specs.Plans.{TakesNoMemory}
use Rattle.rp_replica.specs.Kept.{HoldsCut}
use Rattle.rp_replica.specs.State.{ReplicaState, after_turn}

-- The turn took effect: its record is written and stable, and the bytes are the texts of its
-- packets.
pub record Turns {S : Type 0} (turn : Turn) (old new : ReplicaState S) (sent : Sent) : Type 0 where
  pub goes : new ≡ after_turn old turn
  pub bytes : sent.bytes.items ≡ texts_of turn.sent
  pub packets : sent.packets ≡ length turn.sent
  pub dropped : sent.dropped ≡ turn.dropped

-- The device failed while this record was written: some prefix of its text may be after the
-- others, and so it holds what some cut of the turn leaves of the node's part.
pub record FailsAt {S : Type 0} (written : Option Rec) (old new : ReplicaState S) : Type 0 where
  pub rec : Rec
  pub is : written ≡ Some rec
  pub disk : AppendFailed (record_text rec) old.disk new.disk
  pub goes : new ≡ record old { disk = new.disk; failed = true }
  pub holds : (kept : ℕ) × HoldsCut kept old new.disk written

-- why a turn did not take effect, and what that leaves; there is no other reason
abbrev pub Stops : {S : Type 0} → Option Rec → ReplicaState S → ReplicaState S → Fault → Type 0
Stops written old new OutOfMemory = (new ≡ old) × (old.failed ≡ false)
Stops written old new Device = FailsAt written old new × (old.failed ≡ false)
Stops written old new Failed = (new ≡ old) × (old.failed ≡ true)
Stops written old new _ = ⊥

-- a refusal changes nothing; after a failure it is reported in its place
abbrev pub IsRefused : {S : Type 0} → Fault → ReplicaState S → ReplicaState S → Fault → Type 0
IsRefused refusal old new fault =
    (new ≡ old)
    × (((fault ≡ refusal) × (old.failed ≡ false)) ⊎ ((fault ≡ Failed) × (old.failed ≡ true)))

-- why the result of an input did not take effect
abbrev pub StopsIf : {S : Type 0} → Result Turn Fault → ReplicaState S → ReplicaState S → Fault
    → Type 0
StopsIf (Ok turn) old new fault = Stops turn.written old new fault
StopsIf (Err refusal) old new fault = IsRefused refusal old new fault

-- it took effect
abbrev pub TurnsIf : {S : Type 0} → Result Turn Fault → ReplicaState S → ReplicaState S → Sent
    → Type 0
TurnsIf (Ok turn) old new sent = Turns turn old new sent × (old.failed ≡ false)
TurnsIf (Err refusal) old new sent = ⊥

-- The result of an input: its turn took effect, and these are its packets; or it did not take
-- effect, for this reason, and that leaves the replica as it was, or with a device that failed
-- within that turn.
abbrev pub Answers : {S : Type 0} → Result Turn Fault → ReplicaState S → ReplicaState S
    → Result Sent Fault → Type 0
Answers effect old new (Ok sent) = TurnsIf effect old new sent
Answers effect old new (Err fault) = StopsIf effect old new fault

-- it took effect, and its packets are after those that were sent before
abbrev pub TurnsOnto : {S : Type 0} → Result Turn Fault → ReplicaState S → ReplicaState S
    → List Message → List Message
    → Dropped → Type 0
TurnsOnto (Ok turn) old new before after dropped =
    Commits turn old new before after × (dropped ≡ turn.dropped) × (old.failed ≡ false)
TurnsOnto (Err refusal) old new before after dropped = ⊥

-- The same result, where the packets are put after others: if it did not take effect, none is.
abbrev pub AnswersOnto : {S : Type 0} → Result Turn Fault → ReplicaState S → ReplicaState S
    → List Message
    → List Message → Result Dropped Fault → Type 0
AnswersOnto effect old new before after (Ok dropped) = TurnsOnto effect old new before after dropped
AnswersOnto effect old new before after (Err fault) =
    StopsIf effect old new fault × (after ≡ before)

-- A turn that takes no memory takes effect, unless the device has failed.
abbrev pub IsCertain : {S A : Type 0} → Result Turn Fault → ReplicaState S → Result A Fault
    → Type 0
IsCertain effect old result =
    (turn : Turn) → effect ≡ Ok turn → TakesNoMemory old.running turn → old.failed ≡ false
    → IsOk result
