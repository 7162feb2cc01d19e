-- What happened in an event, by the world before it and its result.
use Rattle.std.specs.Prelude.{ℕ, ◌+◌, ◌-◌, ◌^◌, min, true, false, is_some, not, Option, Some}
use Rattle.std.specs.Prelude.{None, List, length, option_map, unwrap_or}
use Rattle.rp_run.specs.rp_base.specs.Records.{applied_of}
use Rattle.rp_run.specs.rp_base.specs.declared.record.Rec.{Rec}
use Rattle.rp_run.specs.rp_codec.specs.Message.{Message}
use Rattle.rp_run.specs.rp_codec.specs.declared.packet.Party.{Party}
use Rattle.rp_run.specs.rp_codec.specs.declared.packet.Party.TheVariants.{Node, Task, Audit}
use Rattle.rp_history.specs.Histories.{delivered_by}
use Rattle.rp_history.specs.Views.{actor_of}
use Rattle.rp_history.specs.declared.happened.Happened.{Happened}
use Rattle.rp_history.specs.declared.happened.NodeState.{NodeState}
use Rattle.rp_run.specs.rp_model.specs.Parts.{NodePart, Running}
use Rattle.rp_run.specs.rp_model.specs.World.{World, Transition, part_at}
use Rattle.rp_run.specs.rp_model.specs.declared.effect.Effect.{Effect}
use Rattle.rp_run.specs.rp_model.specs.declared.event.Event.{Event}
use Rattle.rp_world.specs.rp_actors.specs.Nodes.{stored_length}

-- how many actions a node with these records has applied, 0 if it is stopped
abbrev pub applied_while : List Rec → Option Running → ℕ
applied_while records None = 0
applied_while records (Some running) = min (length (applied_of records)) (2 ^ 16 - 1)

-- what is noted of a node, if there is one of this number
abbrev pub node_state : Option NodePart → NodeState
node_state None = record { stored = 0; applied = 0; is_stopped = true }
node_state (Some part) = record {
  stored = stored_length part;
  applied = applied_while part.records part.running;
  is_stopped = not (is_some part.running);
}

-- what is noted if no node acts
abbrev pub no_node : NodeState
no_node = record { stored = 0; applied = 0; is_stopped = false }

abbrev pub party_state : World → Party → NodeState
party_state w (Node node) = node_state (part_at w.nodes node)
party_state w (Task task) = no_node
party_state w Audit = no_node

-- what is noted of who acts
abbrev pub actor_state : World → Option Party → NodeState
actor_state w None = no_node
actor_state w (Some party) = party_state w party

-- the receiver of the packet of this number
abbrev pub receiver_at : List Message → Option ℕ → Option Party
receiver_at sent None = None
receiver_at sent (Some number) = option_map (λ m. m.to) (part_at sent number)

-- who acts in an event
abbrev pub actor_at : World → Event → Option Party
actor_at w event = actor_of event (receiver_at w.sent (delivered_by event))

-- the effect of an event after n messages were sent
abbrev pub effect_after : ℕ → Transition → Effect
effect_after sent transition = record {
  first = sent + 1;
  sent = min (length transition.sends) (2 ^ 32 - 1);
  dropped = transition.dropped;
  taken = transition.taken;
  opened = transition.opened;
}

-- the number of the packet that an event delivers, or else of the first one that it sends
abbrev pub packet_number : Event → ℕ → ℕ
packet_number event first = unwrap_or (delivered_by event) first

-- what happened in an event with this result
abbrev pub happened_in : World → Event → Transition → Happened
happened_in w event transition = record {
  event = event;
  effect = effect_after (length w.sent) transition;
  actor = actor_at w event;
  before = actor_state w (actor_at w event);
  after = actor_state transition.world (actor_at w event);
  packet = part_at transition.world.sent (packet_number event (length w.sent + 1));
}
