-- What a node may be given, and the result.
use Rattle.std.specs.Prelude.{◌≡◌, Result, Ok, Err, List}
use Rattle.rp_base.specs.Action.{IsRight}
use Rattle.rp_base.specs.declared.action.Action.{Action}
use Rattle.rp_base.specs.declared.action.Action.TheVariants as actions
use Rattle.rp_base.specs.declared.reply.Answer.{Answer}
use Rattle.rp_base.specs.declared.fault.Fault.{Fault}
use Rattle.rp_base.specs.declared.fault.Fault.TheVariants.{BadPacket, OutOfMemory}
use Rattle.rp_base.specs.declared.fault.PacketReason.{PacketReason}
use Rattle.rp_model.specs.rp_codec.specs.Decoding.{IsLongText}
use Rattle.rp_model.specs.rp_codec.specs.Message.{Message}
use Rattle.rp_model.specs.rp_codec.specs.Reading.{all_of}
use Rattle.rp_model.specs.Parts.{Turn}
use Rattle.rp_model.specs.Effect.{NodeInput, Setting, plan_of, running_effect}
use Rattle.rp_model.specs.Node.{RunningNode, running_node}
use Rattle.rp_model.specs.declared.plan.Plan.{Plan}
use Rattle.rp_model.specs.Effect as nodes
use Rattle.rp_rules.specs.declared.input.Input.{Input}
use Rattle.rp_rules.specs.declared.input.Input.TheVariants.{Receive, Lead, LeadRange, Interrupt}
use Rattle.rp_rules.specs.declared.input.Input.TheVariants.{Tick, Report, Ask}
use Rattle.rp_server.specs.State.{ServerState}

-- an interrupt's source is 1 to 8, and its occurrence from 1
abbrev pub IsRightInput : Input → Type 0
IsRightInput (Interrupt source occurrence) = IsRight (actions.Interrupt source occurrence)
IsRightInput _ = Unit {0}

-- bytes are the packet of which they are the text, all of them; there is a reason where they are
-- none's
abbrev pub packet_given : Result Message PacketReason → Result NodeInput Fault
packet_given (Ok message) = Ok (nodes.NodeInput.Receive message)
packet_given (Err reason) = Err (BadPacket reason)

-- what the node is given by an input
abbrev pub given_by : Input → Result NodeInput Fault
given_by (Receive bytes) = packet_given (all_of bytes.now)
given_by (Lead choice) = Ok (nodes.NodeInput.Lead choice)
given_by (LeadRange range) = Ok (nodes.NodeInput.LeadRange range.first range.count)
given_by (Interrupt source occurrence) = Ok (nodes.NodeInput.Interrupt source occurrence)
given_by (Tick now) = Ok (nodes.NodeInput.Tick now)
given_by (Report first) = Ok (nodes.NodeInput.Report first)
given_by (Ask to) = Ok (nodes.NodeInput.Ask to)

module _ {S : Type 0} (next : S → Action → S) (answers : S → Action → List Answer)
    (server : ServerState S) where
  -- what it shares with the other nodes
  abbrev pub setting_of : Setting S
  setting_of =
      record { config = server.config; next = next; answers = answers; begin = server.begin }

  -- the node that runs
  abbrev pub running_server : RunningNode S
  running_server = running_node setting_of server.me server.records server.running

  -- what it decides of an input for a node, if it is one
  abbrev pub plan_if_given : Result NodeInput Fault → Result Plan Fault
  plan_if_given (Ok input) = plan_of running_server input
  plan_if_given (Err refusal) = Err refusal

  -- what it decides of an input for a server
  abbrev pub input_plan : Input → Result Plan Fault
  input_plan input = plan_if_given (given_by input)

  -- the result of an input for a node, or its refusal
  abbrev pub effect_of : NodeInput → Result Turn Fault
  effect_of input = running_effect setting_of server.me server.records server.running input

  -- the result, or the refusal
  abbrev pub effect_if_given : Result NodeInput Fault → Result Turn Fault
  effect_if_given (Ok input) = effect_of input
  effect_if_given (Err refusal) = Err refusal

  -- the result of an input for a server, or its refusal
  abbrev pub input_effect : Input → Result Turn Fault
  input_effect input = effect_if_given (given_by input)

-- a packet that takes memory to read: a report, or a promise for a range
abbrev pub IsLong : Input → Type 0
IsLong (Receive bytes) = IsLongText bytes.now
IsLong _ = ⊥

-- why there is no plan: the refusal of the input; where it has a result, the memory that a long
-- packet takes
abbrev pub Refuses : {A : Type 0} → Type 0 → Result A Fault → Fault → Type 0
Refuses long (Ok result) fault = (fault ≡ OutOfMemory) × long
Refuses long (Err refusal) fault = fault ≡ refusal
