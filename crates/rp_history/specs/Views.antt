-- Which packets are drawn, on which lanes, and in which colour; and what is drawn of an event
-- beside the ways of packets.
use Rattle.std.specs.Prelude.{ℕ, ◌+◌, ◌-◌, ◌%◌, Bool, true, false, ◌&&◌, ◌||◌, nat_eq}
use Rattle.std.specs.Prelude.{nat_le, nat_lt, if◌then◌else◌, is_some, Option, Some, None, Vec}
use Rattle.std.specs.declared.alloc.Global.{Global}
use Rattle.rp_model.specs.rp_base.specs.Ballot.{owner_of, round_of}
use Rattle.rp_model.specs.rp_base.specs.Ranges.{is_covered}
use Rattle.rp_model.specs.rp_codec.specs.Message.{Message}
use Rattle.rp_model.specs.rp_codec.specs.declared.packet.Body.{Body}
use Rattle.rp_model.specs.rp_codec.specs.declared.packet.Body.TheVariants.{Call, Prepare, Promise}
use Rattle.rp_model.specs.rp_codec.specs.declared.packet.Body.TheVariants.{Accept}
use Rattle.rp_model.specs.rp_codec.specs.declared.packet.Body.TheVariants.{Accepted, Decided, Ask}
use Rattle.rp_model.specs.rp_codec.specs.declared.packet.Body.TheVariants.{Nack, Reply}
use Rattle.rp_model.specs.rp_codec.specs.declared.packet.Body.TheVariants.{Report, PrepareRange}
use Rattle.rp_model.specs.rp_codec.specs.declared.packet.Body.TheVariants.{PromiseRange}
use Rattle.rp_model.specs.rp_codec.specs.declared.packet.Party.{Party}
use Rattle.rp_model.specs.rp_codec.specs.declared.packet.Party.TheVariants.{Node, Task, Audit}
use Rattle.rp_drawing.specs.declared.sketch.Kind.{Kind}
use Rattle.rp_drawing.specs.declared.sketch.Kind.TheVariants as kinds
use Rattle.rp_drawing.specs.declared.sketch.Label.{Label}
use Rattle.rp_drawing.specs.declared.sketch.Mark.{Mark}
use Rattle.rp_drawing.specs.declared.sketch.Sending.{Sending}
use Rattle.rp_drawing.specs.declared.words.Words.{Words}
use Rattle.rp_history.specs.declared.happened.Happened.{Happened}
use Rattle.rp_history.specs.declared.stage.Stage.{Stage}
use Rattle.rp_history.specs.declared.view.View.{View}
use Rattle.rp_model.specs.declared.event.Event.{Event}
use Rattle.rp_model.specs.declared.event.Event.TheVariants as events
use Rattle.rp_model.specs.declared.event.Step.{Step}
use Rattle.rp_model.specs.declared.event.Step.TheVariants as steps

-- the party is this node
abbrev pub is_this_node : Party → ℕ → Bool
is_this_node (Node other) node = nat_eq other node
is_this_node (Task task) node = false
is_this_node Audit node = false

-- a packet from a node to itself
abbrev pub is_to_itself : Party → Party → Bool
is_to_itself (Node sender) to = is_this_node to sender
is_to_itself (Task task) to = false
is_to_itself Audit to = false

-- a packet that names this position
abbrev pub names_position : Body → ℕ → Bool
names_position (Call action) at = false
names_position (Prepare position ballot) at = nat_eq position at
names_position (Promise position ballot last) at = nat_eq position at
names_position (Accept position ballot action) at = nat_eq position at
names_position (Accepted position ballot action) at = nat_eq position at
names_position (Decided position action) at = nat_eq position at
names_position (Ask position) at = nat_eq position at
names_position (Nack position ballot bound) at = nat_eq position at
names_position (Reply number reply) at = false
names_position (Report first applied actions) at = false
names_position (PrepareRange range ballot) at = is_covered range at
names_position (PromiseRange range ballot votes) at = is_covered range at

-- the packet names the position, if there is one
abbrev pub is_about : Option ℕ → Body → Bool
is_about None body = true
is_about (Some position) body = names_position body position

-- the packet's arrow is drawn
abbrev pub shows : View → Message → Bool
shows view m = if view.hides_self && is_to_itself m.from m.to then false
    else is_about view.position m.body

-- the ballot that a packet names
abbrev pub named_ballot : Body → Option ℕ
named_ballot (Call action) = None
named_ballot (Prepare position ballot) = Some ballot
named_ballot (Promise position ballot last) = Some ballot
named_ballot (Accept position ballot action) = Some ballot
named_ballot (Accepted position ballot action) = Some ballot
named_ballot (Decided position action) = None
named_ballot (Ask position) = None
named_ballot (Nack position ballot bound) = Some ballot
named_ballot (Reply number reply) = None
named_ballot (Report first applied actions) = None
named_ballot (PrepareRange range ballot) = Some ballot
named_ballot (PromiseRange range ballot votes) = Some ballot

-- the colour of a ballot: that of its owner, and a second one in every other round
abbrev pub ballot_colour : Option ℕ → ℕ
ballot_colour None = 0
ballot_colour (Some ballot) =
    if nat_eq (round_of ballot % 2) 1 then owner_of ballot else owner_of ballot + 7

abbrev pub colour_of : Body → ℕ
colour_of body = ballot_colour (named_ballot body)

-- the lane of a party, from 0: the tasks' are first, then the nodes'
abbrev pub lane_of : ℕ → Party → ℕ
lane_of tasks (Task task) = task - 1
lane_of tasks (Node node) = tasks + node - 1
lane_of tasks Audit = 0

-- a message is drawn from its sender's lane to its receiver's, if it is sent in a moment that is
-- drawn
abbrev pub sending_of : Stage → Bool → Message → Sending
sending_of stage is_within m = record {
  from = lane_of stage.tasks m.from;
  to = lane_of stage.tasks m.to;
  colour = colour_of m.body;
  is_drawn = is_within && shows stage.view m;
}

-- ---- which moments are drawn

-- the moment of this number, from 1, is not before the first one that is drawn
abbrev pub is_from : Option ℕ → ℕ → Bool
is_from None moment = true
is_from (Some first) moment = nat_le first moment

-- nor after the last one
abbrev pub is_to : Option ℕ → ℕ → Bool
is_to None moment = true
is_to (Some last) moment = nat_le moment last

-- it is in the part that is drawn
abbrev pub is_within : View → ℕ → Bool
is_within view moment = is_from view.from moment && is_to view.to moment

-- the first or the last moment that is drawn is chosen
abbrev pub is_part : View → Bool
is_part view = is_some view.from || is_some view.to

-- ---- what is drawn of an event

-- events that name no position are drawn too, if none is chosen
abbrev pub shows_all : Option ℕ → Bool
shows_all None = true
shows_all (Some position) = false

-- who makes a step: the receiver of the packet that it delivers, or its node
abbrev pub actor_in : Step → Option Party → Option Party
actor_in (steps.Deliver message) receiver = receiver
actor_in (steps.Lead node position) receiver = Some (Node node)
actor_in (steps.LeadRange node first count) receiver = Some (Node node)
actor_in (steps.Interrupt node interrupt) receiver = Some (Node node)
actor_in (steps.Tick node now) receiver = Some (Node node)
actor_in (steps.Report node first) receiver = Some (Node node)
actor_in (steps.Ask node to) receiver = Some (Node node)

-- who acts in an event
abbrev pub actor_of : Event → Option Party → Option Party
actor_of (events.Submit task node object operation arg) receiver = Some (Task task)
actor_of (events.Again task node) receiver = Some (Task task)
actor_of (events.Node step) receiver = actor_in step receiver
actor_of (events.Cut step kept) receiver = actor_in step receiver
actor_of (events.Stop node) receiver = Some (Node node)
actor_of (events.Restart node) receiver = Some (Node node)

-- The moment of an event is drawn if the packet that it delivers or loses, or else sends first,
-- names the chosen position; with no packet, if no position is chosen.
abbrev pub is_event_drawn : Option ℕ → Option Message → Bool
is_event_drawn position None = shows_all position
is_event_drawn position (Some m) = is_about position m.body

-- the event's node wrote a record or a part of one: its device holds more bytes than before
abbrev pub has_written : Happened → Bool
has_written h = nat_lt h.before.stored h.after.stored

-- a packet was delivered to a stopped node, which does not hear it
abbrev pub is_unheard_by : Event → Bool → Bool
is_unheard_by (events.Node step) stopped = stopped
is_unheard_by _ stopped = false

abbrev pub is_unheard : Happened → Bool
is_unheard h = is_unheard_by h.event h.before.is_stopped

-- The kind of an event's mark. There is none where a stopped node does not hear a packet, or where
-- a node that is to start again is running already.
abbrev pub mark_kind_of : Happened → Event → Option Kind
mark_kind_of h (events.Submit task node object operation arg) = Some kinds.Act
mark_kind_of h (events.Again task node) = Some kinds.Act
mark_kind_of h (events.Node step) =
    if is_unheard h then None else if has_written h then Some kinds.Record else Some kinds.Act
mark_kind_of h (events.Cut step kept) = if has_written h then Some kinds.Torn else Some kinds.Stop
mark_kind_of h (events.Stop node) = Some kinds.Stop
mark_kind_of h (events.Restart node) = if is_some h.effect.opened then Some kinds.Restart else None

-- the colour of the packet's ballot, 0 if there is no packet
abbrev pub packet_colour : Option Message → ℕ
packet_colour None = 0
packet_colour (Some m) = colour_of m.body

-- a mark of this colour and kind on the actor's lane, if somebody acts and there is one
abbrev pub mark_on : Stage → ℕ → Option Kind → Option Party → Option Mark
mark_on stage colour kind None = None
mark_on stage colour None (Some actor) = None
mark_on stage colour (Some kind) (Some actor) =
    Some (record { lane = lane_of stage.tasks actor; colour = colour; kind = kind })

-- the mark of an event
abbrev pub mark_of : Stage → Happened → Option Mark
mark_of stage h = mark_on stage (packet_colour h.packet) (mark_kind_of h h.event) h.actor

-- what is drawn of an event, with the words for it and for what its actor did, and what a page says
-- of it
abbrev pub label_of : Stage → Happened → Words → Words → Vec ℕ Global → Label
label_of stage h cause effect details = record {
  cause = cause;
  effect = effect;
  mark = mark_of stage h;
  is_drawn = is_event_drawn stage.view.position h.packet;
  details = details;
}
