-- The answer of a node (ours).
use Rattle.std.specs.Prelude.{◌≡◌, ◌<◌, ◌≤◌, ◌+◌, ◌-◌, nat_eq, nat_lt, nat_le, ℕ, Bool, true}
use Rattle.std.specs.Prelude.{false, ◌&&◌, Option, Some, None, Result, Ok, Err, List, [], length}
use Rattle.std.specs.Int.{w32, to_be_bytes}
use Rattle.rp_base.specs.Number.{window}
use Rattle.rp_base.specs.Records.{applied_of}
use Rattle.rp_base.specs.declared.action.Action.{Action}
use Rattle.rp_base.specs.declared.fault.Fault.{Fault}
use Rattle.rp_base.specs.declared.fault.Fault.TheVariants as faults
use Rattle.rp_base.specs.declared.record.Rec.{Rec}
use Rattle.rp_base.specs.declared.reply.Answer.{Answer}
use Rattle.rp_codec.specs.Record.{record_text}
use Rattle.rp_replica.specs.rp_machine.specs.Asked.{last_number, last_occurrence}
use Rattle.rp_replica.specs.rp_machine.specs.Replay.{counted_of, replay_state}
use Rattle.rp_replica.specs.rp_model.specs.Parts.{Turn}
use Rattle.rp_replica.specs.rp_model.specs.Effect.{NodeInput}
use Rattle.rp_replica.specs.rp_model.specs.Effect as inputs
use Rattle.rp_replica.specs.rp_model.specs.declared.effect.Dropped.{Dropped}
use Rattle.rp_replica.specs.rp_model.specs.declared.effect.Dropped.TheVariants as drops
use Rattle.rp_requests.specs.declared.not_taken.NotTaken.{NotTaken}
use Rattle.rp_requests.specs.declared.not_taken.NotTaken.TheVariants as takings
use Rattle.rp_requests.specs.Timing.{comes_early, comes_late}
use Rattle.rp_replica.specs.Inputs.{effect_if_given}
use Rattle.rp_replica.specs.rp_outbox.specs.Packets.{ends_of, texts_of}
use Rattle.rp_replica.specs.State.{ReplicaState, after_turn}
use Rattle.rp_replica.specs.Turning.{StopsIf}
use Rattle.rp_replica.specs.rp_server.specs.Free.{free_items}
use Rattle.rp_requests.specs.declared.buffer.Lengths.{Lengths}
use Rattle.rp_requests.specs.declared.refusal.Refusal.{Refusal}
use Rattle.rp_requests.specs.declared.refusal.Refusal.TheVariants as refusals
use Rattle.rp_requests.specs.Buffers.{IsPutInFront, IsTooLongForBuffer, PutsOr}
use Rattle.rp_requests.specs.Requests.{Asked, Step, Applied, Image, LastAnswer, Left, Pending}
use Rattle.rp_requests.specs.Requests.{Counted, Occurred}

-- The node, and the answer of its last step: the bytes to be stored, and the packets; where each
-- packet ends, counted from the first byte of the packets; and what the step did not take. And
-- whether a call came that could not count, and the node has applied nothing since.
pub record NodeState (S : Type 0) : Type 0 where
  pub replica : ReplicaState S
  pub stored : List ℕ
  pub packets : List ℕ
  pub ends : List ℕ
  pub not_taken : NotTaken
  pub had_early : Bool

-- the bytes that a step appends to the device
abbrev pub stored_by : Option Rec → List ℕ
stored_by None = []
stored_by (Some rec) = record_text rec

-- what a step did not take, by whether what came is an interrupt that is over, and by what the
-- node's effect dropped
abbrev pub not_taken : Bool → Dropped → NotTaken
not_taken stale drops.Full = takings.Full
not_taken stale drops.Foreign = takings.Foreign
not_taken true drops.No = takings.Stale
not_taken false drops.No = takings.Nothing

-- how many actions a node has applied
abbrev pub applied_count : {S : Type 0} → ReplicaState S → ℕ
applied_count replica = length (applied_of replica.records)

-- a node after a step took effect
abbrev pub after_step : {S : Type 0} → NodeState S → Bool → Turn → NodeState S
after_step node stale turn = record {
  replica = after_turn node.replica turn;
  stored = stored_by turn.written;
  packets = texts_of turn.sent;
  ends = ends_of 0 turn.sent;
  not_taken = not_taken stale turn.dropped;
  had_early = node.had_early
      && nat_eq (applied_count (after_turn node.replica turn)) (applied_count node.replica);
}

-- a node after a call came that cannot count now: it knows what it knew, and has nothing to give
abbrev pub after_early : {S : Type 0} → NodeState S → NodeState S
after_early node = record {
  replica = node.replica;
  stored = [];
  packets = [];
  ends = [];
  not_taken = takings.Early;
  had_early = true;
}

-- the fewest bytes of a buffer for the answer of a step
abbrev pub step_bytes : ℕ
step_bytes = 8192

-- The step took effect.
pub record StepMade {S : Type 0} (effect : Result Turn Fault) (stale : Bool)
    (old new : NodeState S)
    : Type 0 where
  pub turn : Turn
  pub takes : effect ≡ Ok turn
  pub goes : new ≡ after_step old stale turn

-- The step took effect, and its record and its packets are in the buffer.
pub record StepPut {S : Type 0} (effect : Result Turn Fault) (stale : Bool)
    (old new : NodeState S)
    (before after : List ℕ) (lengths : Lengths) : Type 0 where
  pub room : step_bytes ≤ length before
  pub turn : Turn
  pub takes : effect ≡ Ok turn
  pub goes : new ≡ after_step old stale turn
  pub put : IsPutInFront (stored_by turn.written) (texts_of turn.sent) before after lengths

-- The step took effect, and its record and its packets are more bytes than the buffer has.
pub record StepTooLong {S : Type 0} (effect : Result Turn Fault) (stale : Bool)
    (old new : NodeState S)
    (before after : List ℕ) (needed : ℕ) : Type 0 where
  pub room : step_bytes ≤ length before
  pub turn : Turn
  pub takes : effect ≡ Ok turn
  pub goes : new ≡ after_step old stale turn
  pub long : IsTooLongForBuffer (stored_by turn.written) (texts_of turn.sent) before after needed

-- Nothing changed.
pub record IsSame {S : Type 0} (old new : NodeState S) (before after : List ℕ) : Type 0 where
  pub node : new ≡ old
  pub buffer : after ≡ before

-- how many positions of the log are not applied
abbrev pub positions_left : {S : Type 0} → ReplicaState S → ℕ
positions_left replica = replica.config.max_positions - length (applied_of replica.records)

-- Whether a lead that is out of reach is so for the end of the log: the position, or the last one
-- of the range, is above the log; or, if the node chooses the position, no position of the log is
-- 64 above the first that is not learned.
abbrev pub is_at_end : {S : Type 0} → ReplicaState S → Result NodeInput Fault → Bool
is_at_end replica (Ok (inputs.NodeInput.Lead (Some position))) =
    nat_lt replica.config.max_positions position
is_at_end replica (Ok (inputs.NodeInput.Lead None)) = nat_le (positions_left replica) window
is_at_end replica (Ok (inputs.NodeInput.LeadRange first count)) =
    nat_lt replica.config.max_positions (first + count - 1)
is_at_end replica given = true

-- the refusal for a fault: a full log that has not ended is too far
abbrev pub step_refusal : Bool → Fault → Refusal
step_refusal false faults.LogFull = refusals.TooFar
step_refusal at_end fault = refusals.Fault fault

-- The answer of a step: it took effect, or nothing changed, for this reason.
abbrev pub StepAnswers : {S : Type 0} → Result Turn Fault → Bool → Bool → NodeState S
    → NodeState S → List ℕ → List ℕ → Result Lengths Refusal → Type 0
StepAnswers effect at_end stale old new before after (Ok lengths) =
    StepPut effect stale old new before after lengths
StepAnswers effect at_end stale old new before after (Err (refusals.Fault fault)) =
    IsSame old new before after × (step_bytes ≤ length before)
    × StopsIf effect old.replica old.replica fault
    × (step_refusal at_end fault ≡ refusals.Fault fault)
StepAnswers effect at_end stale old new before after (Err refusals.TooFar) =
    IsSame old new before after × (step_bytes ≤ length before)
    × StopsIf effect old.replica old.replica faults.LogFull × (at_end ≡ false)
StepAnswers effect at_end stale old new before after (Err (refusals.ShortAnswer needed)) =
    IsSame old new before after × (length before < step_bytes) × (needed ≡ step_bytes)
StepAnswers effect at_end stale old new before after (Err (refusals.LongAnswer needed)) =
    StepTooLong effect stale old new before after needed
StepAnswers effect at_end stale old new before after (Err refusals.BadRequest) = ⊥
StepAnswers effect at_end stale old new before after (Err refusals.NoObjects) = ⊥
StepAnswers effect at_end stale old new before after (Err refusals.WrongDevice) = ⊥

-- The answer to a call that cannot count now: there is nothing to store and nothing to send; or
-- nothing changed, since the buffer is too short for a step.
abbrev pub EarlyAnswers : {S : Type 0} → NodeState S → NodeState S → List ℕ → List ℕ
    → Result Lengths Refusal → Type 0
EarlyAnswers old new before after (Ok lengths) =
    (new ≡ after_early old) × (step_bytes ≤ length before)
    × IsPutInFront [] [] before after lengths
EarlyAnswers old new before after (Err (refusals.ShortAnswer needed)) =
    IsSame old new before after × (length before < step_bytes) × (needed ≡ step_bytes)
EarlyAnswers old new before after (Err refusal) = ⊥

-- The answer to what a node is given, by whether it is a call that cannot count now.
abbrev pub GivenAnswers : {S : Type 0} → Bool → Result Turn Fault → Bool → Bool → NodeState S
    → NodeState S → List ℕ → List ℕ → Result Lengths Refusal → Type 0
GivenAnswers true effect at_end stale old new before after result =
    EarlyAnswers old new before after result
GivenAnswers false effect at_end stale old new before after result =
    StepAnswers effect at_end stale old new before after result

-- The answer that shows the objects, unless there is no memory for it.
abbrev pub ImageAnswers : List ℕ → List ℕ → List ℕ → Result Lengths Refusal → Type 0
ImageAnswers image before after (Err (refusals.Fault fault)) =
    (fault ≡ faults.OutOfMemory) × (after ≡ before)
ImageAnswers image before after result = PutsOr [] image before after result

module _ {S : Type 0} (next : S → Action → S) (answers : S → Action → List Answer) where
  -- the actions that counted at a node
  abbrev pub counted_at : NodeState S → List Action
  counted_at node = counted_of next answers node.replica.begin (applied_of node.replica.records)

  -- how many of its pending items are free
  abbrev pub free_at : NodeState S → ℕ
  free_at node =
      length (free_items (counted_at node) node.replica.running.proposals
      node.replica.running.pending)

module _ {S : Type 0} (next : S → Action → S) (answers : S → Action → List Answer)
    (image : S → List ℕ) where
  -- the lines that show the objects of a node
  abbrev pub image_of : NodeState S → List ℕ
  image_of node =
      image (replay_state next answers node.replica.begin (applied_of node.replica.records))

  -- The answer to a request.
  abbrev pub RequestAnswers : Option Asked → NodeState S → NodeState S → List ℕ → List ℕ
      → Result Lengths Refusal → Type 0
  RequestAnswers None old new before after result =
      IsSame old new before after × (result ≡ Err refusals.BadRequest)
  RequestAnswers (Some (Step input)) old new before after result =
      GivenAnswers (comes_early next answers old.replica input)
      (effect_if_given next answers old.replica input) (is_at_end old.replica input)
      (comes_late next answers old.replica input) old new before after result
  RequestAnswers (Some Applied) old new before after result =
      (new ≡ old)
      × PutsOr [] (to_be_bytes w32 (length (applied_of old.replica.records))) before after result
  RequestAnswers (Some Image) old new before after result =
      (new ≡ old) × ImageAnswers (image_of old) before after result
  RequestAnswers (Some LastAnswer) old new before after result =
      (new ≡ old) × PutsOr old.stored old.packets before after result
  RequestAnswers (Some Left) old new before after result =
      (new ≡ old)
      × PutsOr [] (to_be_bytes w32 (positions_left old.replica)) before after result
  RequestAnswers (Some Pending) old new before after result =
      (new ≡ old) × PutsOr [] (to_be_bytes w32 (free_at next answers old)) before after result
  RequestAnswers (Some (Counted task)) old new before after result =
      (new ≡ old)
      × PutsOr [] (to_be_bytes w32 (last_number task (counted_at next answers old))) before after
      result
  RequestAnswers (Some (Occurred source)) old new before after result =
      (new ≡ old)
      × PutsOr [] (to_be_bytes w32 (last_occurrence source (counted_at next answers old))) before
      after result
