-- The turns of a node's loop: each is the turn of its node, and if that is idle the node may lead
-- with a new ballot.
use Rattle.std.specs.Prelude.{◌≡◌, ◌≢◌, ◌⊎◌, ℕ, ◌+◌, ◌-◌, ◌<◌, ◌≤◌, nat_lt, Bool, true, false}
use Rattle.std.specs.Prelude.{◌&&◌, not, Option, Some, None, IsSome, List, length}
use Rattle.std.specs.Prelude.{if◌then◌else◌}
use Rattle.rp_base.specs.declared.action.Action.{Action}
use Rattle.rp_base.specs.declared.fault.Fault.{Fault}
use Rattle.rp_base.specs.declared.fault.Fault.TheVariants.{OutOfMemory, Device, Failed}
use Rattle.rp_base.specs.declared.reply.Answer.{Answer}
use Rattle.rp_codec.specs.declared.packet.Party.{Party}
use Rattle.rp_codec.specs.declared.packet.Party.TheVariants.{Node}
use Rattle.rp_replica.specs.rp_model.specs.Parts.{NodePart, Running}
use Rattle.rp_replica.specs.rp_rules.specs.declared.input.Input.{Input}
use Rattle.rp_replica.specs.rp_rules.specs.declared.input.Input.TheVariants.{Lead}
use Rattle.rp_tasks.specs.Line.{Line}
use Rattle.rp_board.specs.Parts.{Part, OfNode}
use Rattle.rp_board.specs.Seats.{SeatState}
use Rattle.rp_boxes.specs.NodeSeats.{HasApplied, HasUncounted, IsRunning, IsStopped}
use Rattle.rp_threads.specs.Loops.{sender_at, is_to_lead, is_refusal, is_uneventful, no_turns}
use Rattle.rp_threads.specs.Loops.{counted}
use Rattle.rp_patience.specs.Patience.{fresh_wait, waits, is_over, after_quiet}
use Rattle.rp_threads.specs.Turns.{IsLost, IsEventBy, IsStopBy, IsNodeTurn, IsStoppedTurn}
use Rattle.rp_threads.specs.declared.loops.Counts.{Counts}
use Rattle.rp_threads.specs.declared.loops.NodeLoop.{NodeLoop}
use Rattle.rp_threads.specs.declared.loops.Worker.{Worker}
use Rattle.rp_patience.specs.declared.patience.Patience.{Patience}
use Rattle.rp_threads.specs.declared.turns.PacketCounts.{PacketCounts}
use Rattle.rp_threads.specs.declared.turns.Turn.TheVariants.{Led, Idle}
use Rattle.rp_threads.specs.declared.turns.TurnResult.{TurnResult}

-- the node runs
abbrev pub Runs : Part → Type 0
Runs part = (node : NodePart) × (part.role ≡ OfNode node) × IsSome node.running

-- by its patience the node is to lead now
abbrev pub HasWaited : {P : Type 0} → SeatState P → Patience → Type 0
HasWaited seat patience =
    (applied : ℕ) × HasApplied seat.part applied
    × (is_over seat.setup.number (waits 1 applied patience) ≡ true)

-- The node has something pending that did not count yet, and this is the first position that it has
-- not applied.
pub record IsToLeadAt {S P : Type 0} (next : S → Action → S) (answers : S → Action → List Answer)
    (begin : P → S) (seat : SeatState P) (position : ℕ) : Type 0 where
  pub applied : ℕ
  pub has : HasApplied seat.part applied
  pub follows : position ≡ applied + 1
  pub pending : HasUncounted next answers begin seat

-- Why a node does not lead after an idle turn: nothing is pending that did not count yet, as at a
-- stopped node; by its patience it is not to lead yet; or it has applied an action at the last
-- position.
pub data NeedNotLead {S P : Type 0} (next : S → Action → S) (answers : S → Action → List Answer)
    (begin : P → S) (seat : SeatState P) (patience : Patience) : Type 0 where
  nothing_pending : ¬ HasUncounted next answers begin seat
      → NeedNotLead next answers begin seat patience
  still_waits : (applied : ℕ) → HasApplied seat.part applied
      → is_over seat.setup.number (waits 1 applied patience) ≡ false
      → NeedNotLead next answers begin seat patience
  no_position_left : (applied : ℕ) → HasApplied seat.part applied → 65535 ≤ applied
      → NeedNotLead next answers begin seat patience

-- An idle turn is counted by the node's patience if something is pending that did not count yet,
-- and only then.
pub record CountsQuiet {S P : Type 0} (next : S → Action → S) (answers : S → Action → List Answer)
    (begin : P → S) (seat : SeatState P) (old new : Patience) : Type 0 where
  pub quiet : (applied : ℕ) → HasApplied seat.part applied → HasUncounted next answers begin seat
      → new ≡ after_quiet 1 seat.setup.number applied old
  pub other : ¬ HasUncounted next answers begin seat → new ≡ old

-- the command to lead there
abbrev pub IsLeadAnew : {S P : Type 0} → (S → Action → S) → (S → Action → List Answer) → (P → S)
    → SeatState P → Input → Type 0
IsLeadAnew next answers begin seat input =
    (position : ℕ) × IsToLeadAt next answers begin seat position × (input ≡ Lead (Some position))

-- the state of a node in its loop: its seat, its link and its patience
pub record WorkerAt (P : Type 0) : Type 0 where
  pub seat : SeatState P
  pub line : Line
  pub patience : Patience

abbrev pub worker_at : {M D P : Type 0} → Worker M D P → WorkerAt P
worker_at worker = record { seat = worker.seat; line = worker.link; patience = worker.patience }

module _ {S P : Type 0} (next : S → Action → S) (answers : S → Action → List Answer)
    (begin : P → S) where
  module _ (from : Party) (lead : Bool) (old new : WorkerAt P) where
    -- The turn of the node; it did not lead with a new ballot, since it was not idle or need not.
    pub record IsOwnTurn (turned : TurnResult) : Type 0 where
      pub turn : IsNodeTurn next answers begin from lead old.seat new.seat old.line new.line turned
      pub busy : turned.turn ≢ Idle → new.patience ≡ old.patience
      pub idle : turned.turn ≡ Idle
          → NeedNotLead next answers begin new.seat old.patience
          × CountsQuiet next answers begin new.seat old.patience new.patience

    -- The turn of the node was idle, after which it was at this seat, and by its patience it was to
    -- lead with a new ballot.
    pub record IsIdleTurn (between : SeatState P) : Type 0 where
      pub turned : TurnResult
      pub turn : IsNodeTurn next answers begin from lead old.seat between old.line new.line turned
      pub idle : turned.turn ≡ Idle
      pub waited : HasWaited between old.patience
      pub counts : CountsQuiet next answers begin between old.patience new.patience

    -- It then led with a new ballot, and sent and lost these packets.
    pub record IsLedAnew (packets : PacketCounts) : Type 0 where
      pub between : SeatState P
      pub first : IsIdleTurn between
      pub leads : IsEventBy next answers begin (IsLeadAnew next answers begin between) between
          new.seat packets

    -- The step in which it was then to lead was cut, or was no event.
    pub record IsStoppedAnew (fault : Fault) : Type 0 where
      pub between : SeatState P
      pub first : IsIdleTurn between
      pub stops : IsStopBy next answers begin (IsLeadAnew next answers begin between) between
          new.seat fault

    -- the turn that was made: the node's own, or one in which it led with a new ballot
    abbrev pub IsMade : TurnResult → Type 0
    IsMade turned = IsOwnTurn turned ⊎ ((turned.turn ≡ Led) × IsLedAnew turned.packets)

    -- the turn of the node was not made, because of a fault
    abbrev pub IsOwnUnmade : Fault → Type 0
    IsOwnUnmade fault =
        IsLost from (Node old.seat.setup.number) old.seat new.seat old.line new.line fault
        ⊎ IsStoppedTurn next answers begin from lead old.seat new.seat old.line new.line fault

    -- a fault because of which no turn was made
    abbrev pub IsUnmade : Fault → Type 0
    IsUnmade fault =
        (IsOwnUnmade fault × (new.patience ≡ old.patience)) ⊎ IsStoppedAnew fault

    -- a turn that was made, or skipped: by the gate, or because the node was refused to lead.
    -- Unless the gate skips the turn, the gate is notified how many packets were sent in it
    abbrev pub IsMadeOrSkipped : (ℕ → Type 0) → (Bool → Type 0) → Option TurnResult → Type 0
    IsMadeOrSkipped heard lets (Some turned) =
        lets true × IsMade turned × heard turned.packets.sent
    IsMadeOrSkipped heard lets None = (lets false × (new ≡ old))
        ⊎ (lets true × (fault : Fault) × (is_refusal fault ≡ true) × IsUnmade fault × heard 0)

-- Whether a node rests after a turn: nothing happened in it, and nothing is pending at the node.
pub record RestsAfter (made : Option TurnResult) (part : Part) (rests : Bool) : Type 0 where
  pub pending : Bool
  pub runs : (running : Running) → IsRunning part running
      → pending ≡ nat_lt 0 (length running.pending)
  pub stopped : IsStopped part → pending ≡ false
  pub is : rests ≡ (not pending && is_uneventful made)

-- the state of a node's loop: of its worker, how many turns of each kind it made, how many packets
-- these lost at boxes, and the last turn after which the node did not rest
pub record NodeAt (P : Type 0) : Type 0 where
  pub worker : WorkerAt P
  pub counts : Counts
  pub stirred : ℕ

abbrev pub node_state : {M D P : Type 0} → NodeLoop M D P → NodeAt P
node_state node = record {
  worker = worker_at node.worker;
  counts = node.counts;
  stirred = node.stirred;
}

-- who it is, as the gate knows it
abbrev pub node_party : {P : Type 0} → NodeAt P → Party
node_party now = Node now.worker.seat.setup.number

-- for how many turns, up to this one, it has rested
abbrev pub node_rested : {P : Type 0} → ℕ → NodeAt P → ℕ
node_rested done now = done - now.stirred

-- before its first turn
abbrev pub before_turns : {P : Type 0} → SeatState P → Line → NodeAt P
before_turns seat line = record {
  worker = record { seat = seat; line = line; patience = fresh_wait 0 };
  counts = no_turns;
  stirred = 0;
}

-- Why a node's loop may end before its last turn: out of memory; its device failed in that turn; or
-- the node was stopped from the start, because its device had failed.
abbrev pub IsNodeFault : {P : Type 0} → SeatState P → SeatState P → Fault → Type 0
IsNodeFault first last OutOfMemory = Unit {0}
IsNodeFault first last Device = first.failures < last.failures
IsNodeFault first last Failed = IsStopped first.part
IsNodeFault first last _ = ⊥

module _ {S P : Type 0} (next : S → Action → S) (answers : S → Action → List Answer)
    (begin : P → S) (lets : ℕ → ℕ → Bool → Type 0) (heard : ℕ → ℕ → ℕ → Type 0)
    (nodes : ℕ) where
  -- the turn with this number, of a node among n: the gate decides on it and is notified of it, and
  -- the box of its sender is emptied
  abbrev pub IsTurnOf : ℕ → WorkerAt P → WorkerAt P → Option TurnResult → Type 0
  IsTurnOf turn old new made =
      IsMadeOrSkipped next answers begin (sender_at nodes turn)
      (is_to_lead old.seat.setup.number turn) old new
      (heard old.seat.setup.number turn) (lets old.seat.setup.number turn) made

  -- the gate lets the turn with this number pass, and it was not made because of a fault
  abbrev pub IsTurnUnmade : ℕ → WorkerAt P → WorkerAt P → Fault → Type 0
  IsTurnUnmade turn old new fault =
      lets old.seat.setup.number turn true
      × IsUnmade next answers begin (sender_at nodes turn)
      (is_to_lead old.seat.setup.number turn) old new fault

  -- The turn with this number was made or skipped, and is counted; the node rests after it or not.
  pub record IsCountedTurn (turn : ℕ) (old new : NodeAt P) : Type 0 where
    pub made : Option TurnResult
    pub turns : IsTurnOf turn old.worker new.worker made
    pub counts : new.counts ≡ counted made old.counts
    pub rests : Bool
    pub rests_if : RestsAfter made new.worker.seat.part rests
    pub stirred : new.stirred ≡ (if rests then old.stirred else turn)

  -- The turn with this number was not made, because of a fault other than a refusal to lead. It is
  -- not counted.
  pub record IsUncountedTurn (turn : ℕ) (old new : NodeAt P) (fault : Fault) : Type 0 where
    pub ends : is_refusal fault ≡ false
    pub unmade : IsTurnUnmade turn old.worker new.worker fault
    pub counts : new.counts ≡ old.counts
