-- The result of an input for one node, and what a stop, a cut and a restart leave of it. Nothing
-- here looks at another actor.
use Rattle.std.specs.Prelude.{ℕ, min, nat_le, Option, Some, None, Result, Ok, Err, List, []}
use Rattle.std.specs.Prelude.{◌∷◌, ◌++◌, length, if◌then◌else◌}
use Rattle.rp_base.specs.declared.fault.Fault.{Fault}
use Rattle.rp_base.specs.declared.fault.Fault.TheVariants.{NotRunning}
use Rattle.rp_base.specs.declared.record.Rec.{Rec}
use Rattle.rp_base.specs.declared.reply.Answer.{Answer}
use Rattle.rp_base.specs.Ranges.{range_of}
use Rattle.rp_codec.specs.Message.{Message}
use Rattle.rp_model.specs.Parts.{Running}
use Rattle.rp_model.specs.Parts.{NodePart}
use Rattle.rp_model.specs.Parts.{Turn}
use Rattle.rp_model.specs.declared.effect.Dropped.{Dropped}
use Rattle.rp_model.specs.declared.effect.Dropped.TheVariants.{No}
use Rattle.rp_model.specs.Parts.{fresh_running, with_record}
pub use Rattle.rp_model.specs.Node.{Setting}
use Rattle.rp_model.specs.Node.{RunningNode, running_node}
use Rattle.rp_model.specs.Texts.{written_for}
use Rattle.rp_model.specs.Arrivals.{on_interrupt, on_tick}
use Rattle.rp_model.specs.Leader.{on_lead, on_lead_range}
use Rattle.rp_model.specs.Learner.{on_ask_missing}
use Rattle.rp_model.specs.Receiving.{receives}
use Rattle.rp_model.specs.Plans.{turn_of}
use Rattle.rp_model.specs.declared.plan.Plan.{Plan}
use Rattle.rp_model.specs.declared.plan.Plan.TheVariants as plans

-- The result of an input for one actor: its part after, the record that it writes first, the
-- packets that it sends in order, what it dropped, the reply that it took, and how many records and
-- torn bytes it opened with.
pub record Done (P : Type 0) : Type 0 where
  pub part : P
  pub written : Option Rec
  pub sends : List Message
  pub dropped : Dropped
  pub taken : Option Answer
  pub opened : Option (ℕ × ℕ)

-- the part becomes this one, and nothing else results
abbrev pub goes_on_as : {P : Type 0} → P → Done P
goes_on_as part =
    record { part = part; written = None; sends = []; dropped = No; taken = None; opened = None }

-- what a node may be given: a packet, the command to lead at a position or the least free one, the
-- command to lead at n positions from one on, an interrupt of a source, a tick, a request to report
-- from a position on, or the command to ask a node for what it misses
pub data NodeInput : Type 0 where
  Receive : Message → NodeInput
  Lead : Option ℕ → NodeInput
  LeadRange : ℕ → ℕ → NodeInput
  Interrupt : ℕ → ℕ → NodeInput
  Tick : ℕ → NodeInput
  Report : ℕ → NodeInput
  Ask : ℕ → NodeInput

-- What a node that runs decides of an input: a plan of all that it does, or a refusal.
abbrev pub plan_of : {S : Type 0} → RunningNode S → NodeInput → Result Plan Fault
plan_of node (Receive message) = Ok (receives node message)
plan_of node (Lead choice) = on_lead node choice
plan_of node (LeadRange first count) = on_lead_range node (range_of first count)
plan_of node (Interrupt source occurrence) = Ok (on_interrupt node source occurrence)
plan_of node (Tick now) = Ok (on_tick node now)
plan_of node (Report first) = Ok (plans.Report first)
plan_of node (Ask to) = on_ask_missing node to

-- the turn of a plan, if there is one
abbrev pub turn_if : {S : Type 0} → RunningNode S → Result Plan Fault → Result Turn Fault
turn_if node (Ok plan) = Ok (turn_of node plan)
turn_if node (Err fault) = Err fault

-- the turn of a node that runs: what its plan does
abbrev pub running_effect : {S : Type 0} → Setting S → ℕ → List Rec → Running → NodeInput
    → Result Turn Fault
running_effect s me records running input =
    turn_if (running_node s me records running) (plan_of (running_node s me records running) input)

-- a turn takes effect: its record is written, then its packets are sent, and the running part is
-- updated
abbrev pub turn_done : NodePart → Turn → Done NodePart
turn_done part turn = record {
  part =
      record part { records = with_record part.records turn.written; running = Some turn.running };
  written = turn.written;
  sends = turn.sent;
  dropped = turn.dropped;
  taken = None;
  opened = None;
}

abbrev pub turn_done_if : NodePart → Result Turn Fault → Result (Done NodePart) Fault
turn_done_if part (Ok turn) = Ok (turn_done part turn)
turn_done_if part (Err fault) = Err fault

abbrev pub effect_while : {S : Type 0} → Setting S → ℕ → NodePart → NodeInput → Option Running
    → Result (Done NodePart) Fault
effect_while s me part input None = Err NotRunning
effect_while s me part input (Some running) =
    turn_done_if part (running_effect s me part.records running input)

-- The result of an input for a node, or its refusal, after which the node is as it was.
abbrev pub node_effect : {S : Type 0} → Setting S → ℕ → NodePart → NodeInput
    → Result (Done NodePart) Fault
node_effect s me part input = effect_while s me part input part.running

-- ---- stops

-- a stop: what was not written is lost
abbrev pub stop_part : NodePart → NodePart
stop_part part = record part { running = None }

-- A stop within a step that writes this record, or none: the record is whole exactly if as many
-- bytes are kept as it has, else these bytes of it are torn; and nothing is sent.
abbrev pub cut_part : ℕ → NodePart → Option Rec → NodePart
cut_part kept part None = stop_part part
cut_part kept part (Some rec) =
    if nat_le (length (written_for rec)) kept
    then stop_part (record part { records = part.records ++ rec ∷ [] })
    else stop_part (record part { torn = kept })

-- at most n torn bytes are left
abbrev pub untorn_part : ℕ → NodePart → NodePart
untorn_part kept part = record part { torn = min kept part.torn }

-- a stop of a node that runs
abbrev pub stops_while : NodePart → Option Running → Result (Done NodePart) Fault
stops_while part None = Err NotRunning
stops_while part (Some running) = Ok (goes_on_as (stop_part part))

abbrev pub stop_effect : NodePart → Result (Done NodePart) Fault
stop_effect part = stops_while part part.running

-- a cut of a step, by the result of the whole step
abbrev pub cut_if : ℕ → NodePart → Result (Done NodePart) Fault → Result (Done NodePart) Fault
cut_if kept part (Ok done) = Ok (goes_on_as (cut_part kept part done.written))
cut_if kept part (Err fault) = Err fault

-- the node stops within a step, with n bytes of its record kept
abbrev pub cut_effect : {S : Type 0} → Setting S → ℕ → NodePart → NodeInput → ℕ
    → Result (Done NodePart) Fault
cut_effect s me part input kept = cut_if kept part (node_effect s me part input)

-- A restart: a stopped node runs again by its records alone, its torn bytes are truncated, and it
-- returns the numbers of both. One that runs goes on.
abbrev pub restart_while : NodePart → Option Running → Done NodePart
restart_while part None =
    record (goes_on_as (record part { torn = 0; running = Some fresh_running })) {
      opened = Some (length part.records, part.torn);
    }
restart_while part (Some running) = goes_on_as part

abbrev pub restart_part : NodePart → Done NodePart
restart_part part = restart_while part part.running
