-- What a page says of an event, in lines: the packet that it delivers and those that it sends, each
-- with its fields, and then the state of each node and of each task.
use Rattle.std.specs.Prelude.{ℕ, suc, ◌-◌, min, nat_eq, Option, Some, None, List, [], ◌∷◌, ◌++◌}
use Rattle.std.specs.Prelude.{codes, decimal, drop, flat_map, length, slice_get, if◌then◌else◌}
use Rattle.rp_world.specs.rp_base.specs.Ranges.{positions_of}
use Rattle.rp_world.specs.rp_base.specs.Records.{bound_at, last_vote_at}
use Rattle.rp_world.specs.rp_base.specs.declared.action.Action.{Action}
use Rattle.rp_world.specs.rp_base.specs.declared.action.Action.TheVariants.{Call}
use Rattle.rp_world.specs.rp_base.specs.declared.record.Rec.{Rec}
use Rattle.rp_world.specs.rp_base.specs.declared.reply.Answer.{Answer}
use Rattle.rp_world.specs.rp_codec.specs.Message.{Message}
use Rattle.rp_world.specs.rp_codec.specs.declared.packet.Party.TheVariants as parties
use Rattle.rp_world.specs.rp_machine.specs.Replay.{one_to}
use Rattle.rp_world.specs.rp_model.specs.Learner.{window_of}
use Rattle.rp_world.specs.rp_model.specs.Parts.{NodePart, Running, TaskPart}
use Rattle.rp_world.specs.rp_model.specs.World.{World, part_at}
use Rattle.rp_run.specs.rp_output.specs.FaultMessage.{with_line_feed}
use Rattle.rp_run.specs.rp_output.specs.Printed.{reply_text_of}
use Rattle.rp_run.specs.rp_output.specs.Trace.{message_line_of, party_text_of}
use Rattle.rp_run.specs.Items.{items_text}
use Rattle.rp_run.specs.Output.{RunSetting, part_items}
use Rattle.rp_world.specs.rp_actors.specs.Nodes.{stored_length}
use Rattle.rp_details.specs.Fields.{action_words, asked_words, bound_words, fields_words}

-- a packet of this number: its line, as a trace prints it, and its fields below it
abbrev pub packet_lines : List (List ℕ) → ℕ → Message → List ℕ
packet_lines names number m =
    with_line_feed (message_line_of names number m)
    ++ with_line_feed (codes "  " ++ fields_words m.body)

-- the one of this number, if it was sent
abbrev pub found_lines : List (List ℕ) → ℕ → Option Message → List ℕ
found_lines names number None = []
found_lines names number (Some m) = packet_lines names number m

-- the packet that is delivered, if one is
abbrev pub delivered_lines : List (List ℕ) → List Message → Option ℕ → List ℕ
delivered_lines names sent None = []
delivered_lines names sent (Some number) =
    with_line_feed (codes "delivered:") ++ found_lines names number (part_at sent number)

-- packets, numbered from this one on
abbrev pub packets_lines : List (List ℕ) → ℕ → List Message → List ℕ
packets_lines names number [] = []
packets_lines names number (m ∷ rest) =
    packet_lines names number m ++ packets_lines names (suc number) rest

-- how many bytes the device of a node holds
abbrev pub device_lines : Option NodePart → List ℕ
device_lines None = []
device_lines (Some part) =
    with_line_feed (codes "  device: " ++ (decimal (stored_length part) ++ codes " bytes"))

-- the bound at a position and the last vote there, if there is a bound
abbrev pub bound_line : List Rec → ℕ → List ℕ
bound_line records i =
    if nat_eq (bound_at records i) 0 then []
    else with_line_feed
    (codes "  " ++ bound_words i (bound_at records i) (last_vote_at records i))

-- the same of each position of the window, in a log of this many positions
abbrev pub window_lines : ℕ → List Rec → List ℕ
window_lines most records = flat_map (bound_line records) (positions_of (window_of most records))

-- an item that is pending
abbrev pub pending_line : Action → List ℕ
pending_line item = with_line_feed (codes "  pending: " ++ action_words item)

-- the window of a node and its pending items in order of arrival, if it runs
abbrev pub running_lines : ℕ → List Rec → Option Running → List ℕ
running_lines most records None = []
running_lines most records (Some running) =
    window_lines most records ++ flat_map pending_line running.pending

abbrev pub known_lines : ℕ → Option NodePart → List ℕ
known_lines most None = []
known_lines most (Some part) = running_lines most part.records part.running

-- a node: as `show` prints it, how many bytes its device holds, and its window and what is pending
abbrev pub node_lines : {S : Type 0} → RunSetting S → ℕ → Option NodePart → List ℕ
node_lines s node part =
    items_text (part_items s node part)
    ++ (device_lines part ++ known_lines s.setting.config.max_positions part)

-- the lines of the nodes 1 to n
unfoldable pub nodes_lines : {S : Type 0} → RunSetting S → World → ℕ → List ℕ
nodes_lines s w count =
    flat_map (λ node. node_lines s node (part_at w.nodes node)) (one_to count)

-- the last reply that a task got, if it got one
abbrev pub last_reply_words : Option Answer → List ℕ
last_reply_words None = []
last_reply_words (Some answer) =
    codes ", the last to call " ++ (decimal answer.number
    ++ (codes ": " ++ reply_text_of answer.reply))

-- the call that a task waits for, if it waits for one
abbrev pub waiting_words : Option Action → List ℕ
waiting_words (Some (Call task number object operation arg)) =
    codes ", waits for call " ++ (decimal number
    ++ (codes ": " ++ asked_words object operation arg))
waiting_words _ = []

-- the line of a task of this name: how many replies it got, the last one, and the call that it waits
-- for
abbrev pub task_state_line : List ℕ → TaskPart → List ℕ
task_state_line name part =
    codes "task " ++ (name ++ (codes " replies " ++ (decimal (length part.replies)
    ++ (last_reply_words (slice_get part.replies (length part.replies - 1))
    ++ waiting_words part.outstanding))))

abbrev pub task_lines : List ℕ → Option TaskPart → List ℕ
task_lines name None = []
task_lines name (Some part) = with_line_feed (task_state_line name part)

-- the lines of the tasks 1 to n
abbrev pub tasks_lines : List (List ℕ) → World → ℕ → List ℕ
tasks_lines names w count =
    flat_map (λ task. task_lines (party_text_of names (parties.Task task)) (part_at w.tasks task))
    (one_to count)

-- All of it, in a run with n tasks: what is delivered, the packets that are sent, of which the first
-- has this number, each node with what it knows, and each task.
abbrev pub details_text : {S : Type 0} → RunSetting S → ℕ → Option ℕ → ℕ → World → List ℕ
details_text s tasks delivered first w =
    delivered_lines s.names w.sent delivered
    ++ (with_line_feed (codes "sent:") ++ packets_lines s.names first (drop (first - 1) w.sent))
    ++ (with_line_feed (codes "nodes:") ++ nodes_lines s w s.setting.config.nodes)
    ++ (with_line_feed (codes "tasks:") ++ tasks_lines s.names w (min tasks 8))
