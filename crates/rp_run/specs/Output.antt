-- The output of the lines of a script.
use Rattle.std.specs.Prelude.{ℕ, zero, suc, ◌+◌, ◌-◌, ◌^◌, ◌&&◌, min, not, nat_eq, nat_le, Bool}
use Rattle.std.specs.Prelude.{Option, Some, None, Result, Ok, Err, List, [], ◌∷◌, ◌++◌, length, map}
use Rattle.std.specs.Prelude.{filter, find, flat_map, if◌then◌else◌, true, false, String}
use Rattle.std.specs.Prelude.{string_bytes}
use Rattle.std.specs.List.{list_any}
use Rattle.rp_deck.specs.indexmap.specs.IndexMap.{IndexMap, keys}
use Rattle.rp_base.specs.Records.{applied_of}
use Rattle.rp_base.specs.declared.fault.Fault.{Fault}
use Rattle.rp_base.specs.declared.fault.Fault.TheVariants.{NoSuchMessage}
use Rattle.rp_base.specs.declared.record.Rec.{Rec}
use Rattle.rp_base.specs.declared.reply.Answer.{Answer}
use Rattle.rp_model.specs.rp_codec.specs.Message.{Message}
use Rattle.rp_model.specs.rp_codec.specs.declared.packet.Party.{Party}
use Rattle.rp_model.specs.rp_codec.specs.declared.packet.Party.TheVariants as parties
use Rattle.rp_model.specs.rp_machine.specs.Replay.{one_to, replay_state}
use Rattle.rp_model.specs.declared.effect.Dropped.{Dropped}
use Rattle.rp_model.specs.declared.effect.Dropped.TheVariants.{No, Full, Foreign}
use Rattle.rp_model.specs.declared.event.Event.{Event}
use Rattle.rp_model.specs.declared.event.Event.TheVariants.{Submit, Again, Node, Cut, Stop, Restart}
use Rattle.rp_model.specs.declared.event.Step.{Step}
use Rattle.rp_model.specs.declared.event.Step.TheVariants.{Deliver, Lead, LeadRange, Interrupt}
use Rattle.rp_model.specs.declared.event.Step.TheVariants.{Tick, Report, Ask}
use Rattle.rp_model.specs.Parts.{NodePart, Running}
use Rattle.rp_model.specs.Effect.{Setting}
use Rattle.rp_model.specs.Events.{event_of}
use Rattle.rp_model.specs.World.{World, Transition, opening_world, event_effect, part_at}
use Rattle.rp_run.specs.Items.{Item, Called, Replied, Shown, Noted, Note, Sent, Opened}
use Rattle.rp_run.specs.Items.{AlreadyRunning, PendingFull, Stopped, Refused, DrainLimit}
use Rattle.rp_run.specs.Items.{items_text}
use Rattle.rp_output.specs.Trace.{task_name, party_text_of}
use Rattle.rp_deck.specs.declared.deck.Command.{Command}
use Rattle.rp_deck.specs.declared.deck.Command.TheVariants.{Take, Lose, Drain, Show}
use Rattle.rp_deck.specs.declared.deck.Line.{Line}

-- What is constant in a run: the configuration and the machine, how a state of it is shown, the
-- tasks' names in order, and whether the packets are printed.
pub record RunSetting (S : Type 0) : Type 0 where
  pub setting : Setting S
  pub image : S → List ℕ
  pub names : List (List ℕ)
  pub traced : Bool

-- the state of a run: its world, and the numbers of the messages that are settled
pub record Play : Type 0 where
  pub world : World
  pub settled : List ℕ

-- the result of a part of a run: its items in order, and the play after it
pub record Said : Type 0 where
  pub items : List Item
  pub play : Play

-- the text that it prints
abbrev pub text_of_said : Said → List ℕ
text_of_said said = items_text said.items

-- nothing is printed, and the play does not change
abbrev pub nothing_said : Play → Said
nothing_said play = record { items = []; play = play }

-- one note is printed, and the play does not change
abbrev pub note_said : Play → Note → Said
note_said play note = record { items = Noted (note ∷ []) ∷ []; play = play }

-- one result, and then that of a part that starts from the play after it
abbrev pub and_then : Said → (Play → Said) → Said
and_then here further =
    record { items = here.items ++ (further here.play).items; play = (further here.play).play }

-- the names of a table of tasks, in declared order
abbrev pub names_of : {Y X S : Type 0} → IndexMap (String Y) X S → List (List ℕ)
names_of table = map string_bytes (keys table)

-- ---- messages that are settled

-- the number is one of these
abbrev pub is_among : List ℕ → ℕ → Bool
is_among numbers m = list_any (nat_eq m) numbers

-- the numbers from the first to the last
abbrev pub from_to : ℕ → ℕ → List ℕ
from_to first last = filter (nat_le first) (one_to last)

-- the least message that is not settled: the first unsettled number from 1 to the last message
abbrev pub least_unsettled : Play → Option ℕ
least_unsettled play = find (λ m. not (is_among play.settled m)) (one_to (length play.world.sent))

-- the message of a delivery, whole or cut
abbrev pub delivered_by : Step → List ℕ
delivered_by (Deliver message) = message ∷ []
delivered_by (Lead node position) = []
delivered_by (LeadRange node first count) = []
delivered_by (Interrupt node interrupt) = []
delivered_by (Tick node now) = []
delivered_by (Report node first) = []
delivered_by (Ask node to) = []

-- the messages that an event settles if it happens
abbrev pub settled_by : Event → List ℕ
settled_by (Submit task node object operation arg) = []
settled_by (Again task node) = []
settled_by (Node step) = delivered_by step
settled_by (Cut step kept) = delivered_by step
settled_by (Stop node) = []
settled_by (Restart node) = []

-- a message, if there is one, as a list
abbrev pub message_list : Option ℕ → List ℕ
message_list None = []
message_list (Some message) = message ∷ []

-- The messages from the first to the last count as settled, if all of them were sent.
abbrev pub lost : ℕ → Play → ℕ → ℕ → Said
lost line play first last =
    if nat_le first (length play.world.sent) && nat_le last (length play.world.sent)
    then record {
      items = [];
      play = record { world = play.world; settled = from_to first last ++ play.settled };
    }
    else note_said play (Refused line NoSuchMessage)

-- ---- the output of an event that happened

-- the notes of packets, numbered from this one on
abbrev pub trace_notes : List (List ℕ) → ℕ → List Message → List Note
trace_notes names number [] = []
trace_notes names number (m ∷ rest) =
    Sent number (party_text_of names m.from) (party_text_of names m.to) m.body
    ∷ trace_notes names (suc number) rest

-- the same, if packets are printed
abbrev pub traced_notes : Bool → List (List ℕ) → ℕ → List Message → List Note
traced_notes traced names number packets = if traced then trace_notes names number packets else []

-- the note of a restart: what the node found, or that it was running already
abbrev pub restarted_note : ℕ → Option (ℕ × ℕ) → Note
restarted_note node None = AlreadyRunning node
restarted_note node (Some found) = Opened node found.0 found.1

abbrev pub opened_notes : Event → Option (ℕ × ℕ) → List Note
opened_notes (Submit task node object operation arg) opened = []
opened_notes (Again task node) opened = []
opened_notes (Node step) opened = []
opened_notes (Cut step kept) opened = []
opened_notes (Stop node) opened = []
opened_notes (Restart node) opened = restarted_note node opened ∷ []

-- a node starts again
abbrev pub is_restart : Event → Bool
is_restart (Restart node) = true
is_restart _ = false

-- the node that receives a packet
abbrev pub node_of_party : Party → Option ℕ
node_of_party (parties.Node node) = Some node
node_of_party (parties.Task task) = None
node_of_party parties.Audit = None

abbrev pub receiver_of : Option Message → Option ℕ
receiver_of None = None
receiver_of (Some m) = node_of_party m.to

-- the node that makes a step: for a delivery, the receiver of the packet
abbrev pub node_of_step : List Message → Step → Option ℕ
node_of_step sent (Deliver message) = receiver_of (part_at sent message)
node_of_step sent (Lead node position) = Some node
node_of_step sent (LeadRange node first count) = Some node
node_of_step sent (Interrupt node interrupt) = Some node
node_of_step sent (Tick node now) = Some node
node_of_step sent (Report node first) = Some node
node_of_step sent (Ask node to) = Some node

-- the node that takes an event
abbrev pub node_of_event : List Message → Event → Option ℕ
node_of_event sent (Submit task node object operation arg) = None
node_of_event sent (Again task node) = None
node_of_event sent (Node step) = node_of_step sent step
node_of_event sent (Cut step kept) = node_of_step sent step
node_of_event sent (Stop node) = Some node
node_of_event sent (Restart node) = Some node

abbrev pub is_full : Dropped → Bool
is_full Full = true
is_full _ = false

abbrev pub full_notes : Option ℕ → List Note
full_notes None = []
full_notes (Some node) = PendingFull node ∷ []

-- the note of a pending item for which this node has no place
abbrev pub dropped_notes : Option ℕ → Dropped → List Note
dropped_notes place No = []
dropped_notes place Full = full_notes place
dropped_notes place Foreign = []

-- the call that an event makes
abbrev pub called_by : Event → List Item
called_by (Submit task node object operation arg) =
    Called task (record { object = object; operation = operation; arg = arg }) ∷ []
called_by (Again task node) = []
called_by (Node step) = []
called_by (Cut step kept) = []
called_by (Stop node) = []
called_by (Restart node) = []

-- a reply that a task takes, under its name
abbrev pub reply_item : List (List ℕ) → Answer → Item
reply_item names answer = Replied (task_name names answer.task) answer

-- the item of the reply that a task takes, if one takes any
abbrev pub taken_items : List (List ℕ) → Option Answer → List Item
taken_items names None = []
taken_items names (Some answer) = reply_item names answer ∷ []

-- the notes of a restart and of a pending item that was dropped
abbrev pub changed_notes : List Message → Event → Option (ℕ × ℕ) → Dropped → List Note
changed_notes sent event opened dropped =
    opened_notes event opened ++ dropped_notes (node_of_event sent event) dropped

-- What is printed of an event that happened: the notes, packets first if they are printed, numbered
-- from this one on, and the reply that is taken.
abbrev pub printed_items : Bool → List (List ℕ) → ℕ → Event → Transition → List Item
printed_items traced names first event transition =
    Noted (traced_notes traced names first transition.sends
    ++ changed_notes transition.world.sent event transition.opened transition.dropped)
    ∷ taken_items names transition.taken

-- ---- a run

module _ {S : Type 0} (s : RunSetting S) where
  -- the effect of an event
  abbrev pub transition_of : World → Event → Result Transition Fault
  transition_of world event = event_effect s.setting world (event_of event)

  -- the items of an event that happened in a world: the call that is made, and what is printed
  abbrev pub transition_items : World → Event → Transition → List Item
  transition_items before event transition =
      called_by event
      ++ printed_items s.traced s.names (length before.sent + 1) event transition

  -- An event that happened is printed, and settles its messages. For a refused one the reason is
  -- printed, and the play does not change.
  abbrev pub effect_said : ℕ → Play → Event → Result Transition Fault → Said
  effect_said line play event (Ok transition) =
      record {
        items = transition_items play.world event transition;
        play = record { world = transition.world; settled = settled_by event ++ play.settled };
      }
  effect_said line play event (Err refusal) = note_said play (Refused line refusal)

  -- an event of the line of this number
  unfoldable pub event_said : ℕ → Play → Event → Said
  event_said line play event = effect_said line play event (transition_of play.world event)

  -- The least unsettled message, if there is one, is delivered, and so on, until none is left or n
  -- were delivered.
  unfoldable pub drain_from : ℕ → Play → Option ℕ → ℕ → Said
  drain_from line play None most = nothing_said play
  drain_from line play (Some message) zero = note_said play (DrainLimit line)
  drain_from line play (Some message) (suc most) =
      and_then (event_said line play (Node (Deliver message)))
      (λ after. drain_from line after (least_unsettled after) most)

  -- `drain`, in a line of this number
  abbrev pub drained : ℕ → ℕ → Play → Said
  drained line most play = drain_from line play (least_unsettled play) most

  -- the item of a node with these records, stopped or running
  abbrev pub state_item : ℕ → List Rec → Option Running → Item
  state_item node records None = Noted (Stopped node ∷ [])
  state_item node records (Some running) =
      Shown node (min (length (applied_of records)) (2 ^ 16 - 1))
      (s.image (replay_state s.setting.next s.setting.answers s.setting.begin (applied_of records)))

  -- the item of a node, if there is one of this number
  abbrev pub part_items : ℕ → Option NodePart → List Item
  part_items node None = []
  part_items node (Some part) = state_item node part.records part.running ∷ []

  -- the items of the nodes 1 to n
  unfoldable pub nodes_items : World → ℕ → List Item
  nodes_items world count =
      flat_map (λ node. part_items node (part_at world.nodes node)) (one_to count)

  -- the result of a command in the line of this number, where a `drain` may deliver n messages
  abbrev pub command_said : ℕ → ℕ → Play → Command → Said
  command_said most line play (Take event) = event_said line play event
  command_said most line play (Lose first last) = lost line play first last
  command_said most line play Drain = drained line most play
  command_said most line play Show =
      record { items = nodes_items play.world s.setting.config.nodes; play = play }

  -- the result of the lines of a script in order
  unfoldable pub script_said : ℕ → Play → List Line → Said
  script_said most play [] = nothing_said play
  script_said most play (line ∷ rest) =
      and_then (command_said most line.number play line.command)
      (λ after. script_said most after rest)

  -- all nodes run, and nothing was called, sent or settled
  abbrev pub opening_play : Play
  opening_play = record { world = opening_world s.setting.config.nodes; settled = [] }

  -- the result of a script, where a `drain` may deliver n messages
  abbrev pub run_said : ℕ → List Line → Said
  run_said most lines = script_said most opening_play lines
