-- Calls that cannot count at a node yet, and interrupts that are over.
use Rattle.std.specs.Prelude.{◌&&◌, not, nat_le, nat_lt, Bool, true, false, Option, Some, Result}
use Rattle.std.specs.Prelude.{Ok, List}
use Rattle.rp_base.specs.Records.{applied_of}
use Rattle.rp_base.specs.declared.action.Action.{Action}
use Rattle.rp_base.specs.declared.action.Action.TheVariants.{Call}
use Rattle.rp_base.specs.declared.fault.Fault.{Fault}
use Rattle.rp_base.specs.declared.reply.Answer.{Answer}
use Rattle.rp_codec.specs.Message.{Message}
use Rattle.rp_codec.specs.declared.kind.Kind.{Kind}
use Rattle.rp_codec.specs.declared.kind.Kind.TheVariants as kinds
use Rattle.rp_codec.specs.declared.packet.Body.{Body}
use Rattle.rp_codec.specs.declared.packet.Body.TheVariants as bodies
use Rattle.rp_replica.specs.State.{ReplicaState}
use Rattle.rp_replica.specs.rp_machine.specs.Asked.{last_number, last_occurrence}
use Rattle.rp_replica.specs.rp_machine.specs.Replay.{counts, counted_of, replay_answers}
use Rattle.rp_replica.specs.rp_model.specs.Effect.{NodeInput}
use Rattle.rp_replica.specs.rp_model.specs.Effect as inputs
use Rattle.rp_replica.specs.rp_model.specs.Receiving.{is_node}

-- The call is above the last one of its task that counted, and cannot count now: a call of its task
-- below it did not count, or its task waits.
abbrev pub is_early : List Action → List Answer → Action → Bool
is_early counted given (Call task number object operation arg) =
    nat_lt (last_number task counted) number
    && not (counts counted given (Call task number object operation arg))
is_early counted given action = false

-- the kind of a packet is that of calls
abbrev pub is_call : Option Kind → Bool
is_call (Some kinds.Call) = true
is_call kind = false

-- the body is such a call
abbrev pub is_early_body : List Action → List Answer → Body → Bool
is_early_body counted given (bodies.Call action) = is_early counted given action
is_early_body counted given body = false

module _ {S : Type 0} (next : S → Action → S) (answers : S → Action → List Answer)
    (replica : ReplicaState S) where
  -- the actions that counted at a node, and the answers to what it applied
  abbrev pub counted_by : List Action
  counted_by = counted_of next answers replica.begin (applied_of replica.records)

  abbrev pub answered_by : List Answer
  answered_by = replay_answers next answers replica.begin (applied_of replica.records)

  -- the packet brings the node such a call
  abbrev pub is_early_packet : Message → Bool
  is_early_packet message =
      is_node replica.me message.to && is_early_body counted_by answered_by message.body

  -- what the node is given is such a packet
  abbrev pub comes_early : Result NodeInput Fault → Bool
  comes_early (Ok (inputs.NodeInput.Receive message)) = is_early_packet message
  comes_early given = false

  -- what the node is given is an interrupt of which this occurrence or a higher one counted
  abbrev pub comes_late : Result NodeInput Fault → Bool
  comes_late (Ok (inputs.NodeInput.Interrupt source occurrence)) =
      nat_le occurrence (last_occurrence source counted_by)
  comes_late given = false
