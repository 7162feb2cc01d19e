-- What contracts say of the seat of a node: its inputs, its turns and its reports.
use Rattle.std.specs.Prelude.{◌≡◌, ℕ, ◌<◌, ◌^◌, true, Option, Some, None, IfSome, IsSome, Result}
use Rattle.std.specs.Prelude.{Ok, Err}
use Rattle.std.specs.Prelude.{List, [], ◌∷◌}
use Rattle.std.specs.Prelude.{length}
use Rattle.rp_base.specs.Ranges.{IsRange}
use Rattle.rp_base.specs.Number.{IsNode, IsPosition}
use Rattle.rp_base.specs.Records.{applied_of}
use Rattle.rp_base.specs.declared.action.Action.{Action}
use Rattle.rp_base.specs.declared.fault.Fault.{Fault}
use Rattle.rp_base.specs.declared.fault.Fault.TheVariants.{OutOfMemory, Device, Failed}
use Rattle.rp_base.specs.declared.reply.Answer.{Answer}
use Rattle.rp_codec.specs.Text.{text_of}
use Rattle.rp_model.specs.Effect.{Done, NodeInput, node_effect}
use Rattle.rp_model.specs.Plans.{report_of}
use Rattle.rp_model.specs.declared.effect.Dropped.TheVariants.{No}
use Rattle.rp_model.specs.rp_machine.specs.Replay.{counted_of}
use Rattle.rp_model.specs.Parts.{NodePart, Running}
use Rattle.rp_agreement.specs.Sound.{IsMember}
use Rattle.rp_actors.specs.rp_replica.specs.State.{ReplicaState}
use Rattle.rp_actors.specs.rp_server.specs.Free.{has_uncounted}
use Rattle.rp_actors.specs.rp_rules.specs.Inputs.{IsLong, given_by}
use Rattle.rp_actors.specs.rp_rules.specs.declared.input.Input.{Input}
use Rattle.rp_actors.specs.rp_rules.specs.declared.input.Input.TheVariants.{Receive, Lead, LeadRange}
use Rattle.rp_actors.specs.rp_rules.specs.declared.input.Input.TheVariants.{Interrupt}
use Rattle.rp_actors.specs.rp_rules.specs.declared.input.Input.TheVariants.{Tick, Report, Ask}
use Rattle.rp_actors.specs.rp_replica.specs.declared.sent.Sent.{Sent}
use Rattle.rp_actors.specs.Nodes.{member_of, RepresentsWhile, DescribesSent, IsLight}
use Rattle.rp_board.specs.Parts.{Part, Role, OfNode, part_after}
use Rattle.rp_board.specs.Steps.{IsCutStep}
use Rattle.rp_board.specs.Seats.{SeatSetup, SeatState, setting_at, IsGotText}

-- The replica is the node of a seat with this setup, of this role; if its device failed, that node
-- is stopped.
pub record IsNodeAt {S P : Type 0} (begin : P → S) (replica : ReplicaState S) (setup : SeatSetup P)
    (role : Role) : Type 0 where
  pub member : IsMember setup.config.nodes setup.number
  pub node : NodePart
  pub is : role ≡ OfNode node
  pub represents : RepresentsWhile (member_of setup.number setup.config (begin setup.program))
      replica node replica.failed

-- ---- inputs

-- the numbers are within the ranges of their types
abbrev pub HasInputRanges : Input → Type 0
HasInputRanges (Receive bytes) = Unit {0}
HasInputRanges (Lead choice) = IfSome choice IsPosition
HasInputRanges (LeadRange range) = IsRange range
HasInputRanges (Interrupt source occurrence) = Unit {0}
HasInputRanges (Tick now) = now < 2 ^ 32
HasInputRanges (Report first) = IsPosition first
HasInputRanges (Ask to) = IsNode to

-- the bytes that are to be received are the text of a packet that the actor got
abbrev pub IsGot : Part → Input → Type 0
IsGot part (Receive bytes) = IsGotText part bytes.now
IsGot part (Lead choice) = Unit {0}
IsGot part (LeadRange range) = Unit {0}
IsGot part (Interrupt source occurrence) = Unit {0}
IsGot part (Tick now) = Unit {0}
IsGot part (Report first) = Unit {0}
IsGot part (Ask to) = Unit {0}

-- ---- turns of a node

-- why a node makes no step: it is stopped; or out of memory for the step, or the step's refusal
abbrev pub IsReason : Option Running → Result (Done NodePart) Fault → Fault → Type 0
IsReason None effect fault = fault ≡ Failed
IsReason (Some running) (Ok done) fault = fault ≡ OutOfMemory
IsReason (Some running) (Err refusal) fault = fault ≡ refusal

module _ {S P : Type 0} (next : S → Action → S) (answers : S → Action → List Answer)
    (begin : P → S) where
  -- One event: the result of the input at the node, and its packets.
  pub record IsTurn (old : SeatState P) (input : Input) (new : SeatState P) (sent : Sent)
      : Type 0 where
    pub given : NodeInput
    pub gives : given_by input ≡ Ok given
    pub node : NodePart
    pub was : old.part.role ≡ OfNode node
    pub done : Done NodePart
    pub results : node_effect (setting_at next answers begin old) old.setup.number node given ≡ Ok done
    pub after : new ≡ record old { part = part_after old.part (OfNode done.part) done.sends }
    pub describes : DescribesSent sent done

  -- The input takes no memory at the seat's node: it sends no packet, writes no record, counts no
  -- vote and is no long packet.
  pub record IsLightTurn (old : SeatState P) (input : Input) : Type 0 where
    pub given : NodeInput
    pub gives : given_by input ≡ Ok given
    pub node : NodePart
    pub was : old.part.role ≡ OfNode node
    pub light : IsLight node (node_effect (setting_at next answers begin old) old.setup.number node given)
    pub short : ¬ IsLong input

  -- One event: the device failed while the step wrote its record, of which some bytes were kept,
  -- and the node stopped.
  pub record IsCutTurn (old : SeatState P) (input : Input) (new : SeatState P) (fault : Fault)
      : Type 0 where
    pub device : fault ≡ Device
    pub failed : old.failures < new.failures
    pub given : NodeInput
    pub gives : given_by input ≡ Ok given
    pub node : NodePart
    pub was : old.part.role ≡ OfNode node
    pub done : Done NodePart
    pub cut : IsCutStep (setting_at next answers begin old) old.setup.number node given done
    pub after : new ≡ record old {
      part = part_after old.part (OfNode done.part) done.sends;
      failures = new.failures;
    }

  -- No event: the node is stopped, memory ran out, or the step is refused.
  pub record IsNoTurn (old : SeatState P) (input : Input) (new : SeatState P) (fault : Fault)
      : Type 0 where
    pub unchanged : new ≡ old
    pub given : NodeInput
    pub gives : given_by input ≡ Ok given
    pub node : NodePart
    pub was : old.part.role ≡ OfNode node
    pub why : IsReason node.running
        (node_effect (setting_at next answers begin old) old.setup.number node given) fault

  -- The seat's node runs, and something is pending at it that did not count yet.
  pub record HasUncounted (seat : SeatState P) : Type 0 where
    pub node : NodePart
    pub is : seat.part.role ≡ OfNode node
    pub running : Running
    pub runs : node.running ≡ Some running
    pub uncounted : has_uncounted
        (counted_of next answers (begin seat.setup.program) (applied_of node.records)) running.pending ≡ true

-- ---- reports and states

-- A report of the actions that the node has applied, from a position on. It is the one packet of
-- the step, and nothing else changes.
pub record IsReport {P : Type 0} (first : ℕ) (old new : SeatState P) (sent : Sent) : Type 0 where
  pub node : NodePart
  pub was : old.part.role ≡ OfNode node
  pub text : sent.bytes.items ≡ text_of (report_of old.setup.number first (applied_of node.records))
  pub packets : sent.packets ≡ 1
  pub dropped : sent.dropped ≡ No
  pub after : new ≡ record old {
    part = part_after old.part (OfNode node)
        (report_of old.setup.number first (applied_of node.records) ∷ []);
  }

-- n actions are applied, if the node runs
abbrev pub HasApplied : Part → ℕ → Type 0
HasApplied part count =
    (node : NodePart) × (part.role ≡ OfNode node) × IsSome node.running
    × (count ≡ length (applied_of node.records))

-- the node runs, and this is what it knows while it does
abbrev pub IsRunning : Part → Running → Type 0
IsRunning part running =
    (node : NodePart) × (part.role ≡ OfNode node) × (node.running ≡ Some running)

-- the node is stopped
abbrev pub IsStopped : Part → Type 0
IsStopped part = (node : NodePart) × (part.role ≡ OfNode node) × (node.running ≡ None)
