-- The result of what a replica is given.
use Rattle.std.specs.Prelude.{Result, List}
use Rattle.rp_base.specs.declared.action.Action.{Action}
use Rattle.rp_base.specs.declared.reply.Answer.{Answer}
use Rattle.rp_base.specs.declared.fault.Fault.{Fault}
use Rattle.rp_model.specs.Parts.{Turn}
use Rattle.rp_model.specs.Effect.{NodeInput}
use Rattle.rp_rules.specs.Inputs as rules
use Rattle.rp_rules.specs.declared.input.Input.{Input}
use Rattle.rp_replica.specs.State.{ReplicaState, server_of}

module _ {S : Type 0} (next : S → Action → S) (answers : S → Action → List Answer)
    (replica : ReplicaState S) where
  -- the result of an input for a replica, or its refusal
  abbrev pub replica_effect : NodeInput → Result Turn Fault
  replica_effect input = rules.effect_of next answers (server_of replica) input

  -- the same, where the input itself may be refused
  abbrev pub effect_if_given : Result NodeInput Fault → Result Turn Fault
  effect_if_given given = rules.effect_if_given next answers (server_of replica) given

  -- the same, of what it was given
  abbrev pub input_effect : Input → Result Turn Fault
  input_effect input = rules.input_effect next answers (server_of replica) input
