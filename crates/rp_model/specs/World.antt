-- A world, and what an event does to it: the event picks one actor's part, and puts the part after
-- back.
use Rattle.std.specs.Prelude.{ℕ, zero, suc, Option, Some, None, Result, Ok, Err, List, [], ◌++◌}
use Rattle.std.specs.Prelude.{replicate, slice_get, slice_set}
use Rattle.rp_base.specs.declared.reply.Answer.{Answer}
use Rattle.rp_base.specs.declared.config.Config.{Config}
use Rattle.rp_base.specs.declared.fault.Fault.{Fault}
use Rattle.rp_base.specs.declared.fault.Fault.TheVariants.{NotRunning, NoSuchMessage, BadConfig}
use Rattle.rp_base.specs.declared.record.Rec.{Rec}
use Rattle.rp_codec.specs.Message.{Message}
use Rattle.rp_codec.specs.declared.packet.Party.{Party}
use Rattle.rp_codec.specs.declared.packet.Party.TheVariants.{Node, Task, Audit}
use Rattle.rp_model.specs.Parts.{Running}
use Rattle.rp_model.specs.Parts.{NodePart}
use Rattle.rp_model.specs.Parts.{TaskPart}
use Rattle.rp_model.specs.declared.effect.Dropped.{Dropped}
use Rattle.rp_model.specs.declared.effect.Dropped.TheVariants.{No}
use Rattle.rp_model.specs.Parts.{fresh_node, fresh_task}
use Rattle.rp_model.specs.Effect as nodes
use Rattle.rp_model.specs.Effect.{Setting, Done, NodeInput, node_effect, stop_effect, cut_effect}
use Rattle.rp_model.specs.Effect.{restart_part}
use Rattle.rp_model.specs.Tasks as tasks
use Rattle.rp_model.specs.Tasks.{TaskInput, task_effect}
use Rattle.rp_model.specs.Events.{Step, Deliver, Lead, LeadRange, Interrupt, Tick, Report, Ask}
use Rattle.rp_model.specs.Events.{Event, Submit, Again, Makes, Cut, Stop, Restart}

-- the nodes and the tasks, each from number 1, and the packets ever sent, in order
pub record World : Type 0 where
  pub nodes : List NodePart
  pub tasks : List TaskPart
  pub sent : List Message

-- all nodes run, and all else is empty
abbrev pub opening_world : ℕ → World
opening_world nodes =
    record { nodes = replicate nodes fresh_node; tasks = replicate 8 fresh_task; sent = [] }

-- The result of an event: the world after it, the packets that it sent, what was dropped, the reply
-- that a task took, and the numbers of records and torn bytes that a restart found.
pub record Transition : Type 0 where
  pub world : World
  pub sends : List Message
  pub dropped : Dropped
  pub taken : Option Answer
  pub opened : Option (ℕ × ℕ)

-- the one of this number, from 1
abbrev pub part_at : {A : Type 0} → List A → ℕ → Option A
part_at parts zero = None
part_at parts (suc place) = slice_get parts place

-- the parts with the one of this number in its place
abbrev pub with_part : {A : Type 0} → List A → ℕ → A → List A
with_part parts zero part = parts
with_part parts (suc place) part = slice_set parts place part

-- nothing happens
abbrev pub nothing_happens : World → Transition
nothing_happens w = record { world = w; sends = []; dropped = No; taken = None; opened = None }

-- the result of an actor's step is in the world: its part is put back, and its packets are sent
abbrev pub node_done : World → ℕ → Done NodePart → Transition
node_done w me done = record {
  world = record w { nodes = with_part w.nodes me done.part; sent = w.sent ++ done.sends };
  sends = done.sends;
  dropped = done.dropped;
  taken = done.taken;
  opened = done.opened;
}

abbrev pub task_done : World → ℕ → Done TaskPart → Transition
task_done w task done = record {
  world = record w { tasks = with_part w.tasks task done.part; sent = w.sent ++ done.sends };
  sends = done.sends;
  dropped = done.dropped;
  taken = done.taken;
  opened = done.opened;
}

abbrev pub node_done_if : World → ℕ → Result (Done NodePart) Fault → Result Transition Fault
node_done_if w me (Ok done) = Ok (node_done w me done)
node_done_if w me (Err fault) = Err fault

abbrev pub task_done_if : World → ℕ → Result (Done TaskPart) Fault → Result Transition Fault
task_done_if w task (Ok done) = Ok (task_done w task done)
task_done_if w task (Err fault) = Err fault

-- a task's input, if there is a task of this number
abbrev pub task_takes : Config → World → ℕ → TaskInput → Option TaskPart → Result Transition Fault
task_takes config w task input None = Err BadConfig
task_takes config w task input (Some part) =
    task_done_if w task (task_effect config task part input)

-- ---- who makes a step

-- Who makes a step, and what is given to it: the node of a number has an input, or the task of a
-- number gets a packet. Or a packet is lost: there is no node or task of that number, or the node
-- is stopped, or the packet is for the audit. Or the step is refused. Where a packet is lost or a
-- step refused, this is the number of the node whose step it would be, if it is a node's.
pub data Chosen : Type 0 where
  NodeTakes : ℕ → NodePart → NodeInput → Chosen
  TaskTakes : ℕ → TaskPart → Message → Chosen
  LostFor : Option ℕ → Chosen
  RefusedTo : Option ℕ → Fault → Chosen

-- a node's input, if there is a node of this number
abbrev pub commanded : ℕ → NodeInput → Option NodePart → Chosen
commanded me input None = RefusedTo (Some me) BadConfig
commanded me input (Some part) = NodeTakes me part input

-- a packet for a node that runs, or is stopped
abbrev pub reaches_node : ℕ → Message → NodePart → Option Running → Chosen
reaches_node me message part None = LostFor (Some me)
reaches_node me message part (Some running) = NodeTakes me part (nodes.Receive message)

-- a packet for the node of this number, if there is one
abbrev pub reaches_number : ℕ → Message → Option NodePart → Chosen
reaches_number me message None = LostFor (Some me)
reaches_number me message (Some part) = reaches_node me message part part.running

-- a packet for the task of this number, if there is one
abbrev pub reaches_task : ℕ → Message → Option TaskPart → Chosen
reaches_task task message None = LostFor None
reaches_task task message (Some part) = TaskTakes task part message

-- a packet reaches its receiver
abbrev pub reaches : World → Message → Party → Chosen
reaches w message (Node me) = reaches_number me message (part_at w.nodes me)
reaches w message (Task task) = reaches_task task message (part_at w.tasks task)
reaches w message Audit = LostFor None

-- a packet that was sent is delivered, if there is one of this number
abbrev pub delivers : World → Option Message → Chosen
delivers w None = RefusedTo None NoSuchMessage
delivers w (Some message) = reaches w message message.to

-- who makes a step
abbrev pub chosen : World → Step → Chosen
chosen w (Deliver number) = delivers w (part_at w.sent number)
chosen w (Lead me choice) = commanded me (nodes.Lead choice) (part_at w.nodes me)
chosen w (LeadRange me first count) =
    commanded me (nodes.LeadRange first count) (part_at w.nodes me)
chosen w (Interrupt me source occurrence) =
    commanded me (nodes.Interrupt source occurrence) (part_at w.nodes me)
chosen w (Tick me now) = commanded me (nodes.Tick now) (part_at w.nodes me)
chosen w (Report me first) = commanded me (nodes.Report first) (part_at w.nodes me)
chosen w (Ask me to) = commanded me (nodes.Ask to) (part_at w.nodes me)

-- the record that a node writes first by the result of an input, if it does
abbrev pub written_by : Result (Done NodePart) Fault → Option Rec
written_by (Ok done) = done.written
written_by (Err fault) = None

-- the node whose step it is, if it is a node's: for a delivery the one that the packet is for
abbrev pub node_chosen : Chosen → Option ℕ
node_chosen (NodeTakes me part input) = Some me
node_chosen (TaskTakes task part message) = None
node_chosen (LostFor whom) = whom
node_chosen (RefusedTo whom fault) = whom

module _ {S : Type 0} (s : Setting S) where
  -- the result of what is chosen
  abbrev pub chosen_effect : World → Chosen → Result Transition Fault
  chosen_effect w (NodeTakes me part input) = node_done_if w me (node_effect s me part input)
  chosen_effect w (TaskTakes task part message) =
      task_done_if w task (task_effect s.config task part (tasks.Take message))
  chosen_effect w (LostFor whom) = Ok (nothing_happens w)
  chosen_effect w (RefusedTo whom fault) = Err fault

  -- the same if it is cut with n bytes of its record kept: only a node's step is
  abbrev pub chosen_cut : World → ℕ → Chosen → Result Transition Fault
  chosen_cut w kept (NodeTakes me part input) =
      node_done_if w me (cut_effect s me part input kept)
  chosen_cut w kept (TaskTakes task part message) = Err NotRunning
  chosen_cut w kept (LostFor whom) = Err NotRunning
  chosen_cut w kept (RefusedTo whom fault) = Err fault

  -- the record that what is chosen writes, if it writes one
  abbrev pub chosen_record : Chosen → Option Rec
  chosen_record (NodeTakes me part input) = written_by (node_effect s me part input)
  chosen_record (TaskTakes task part message) = None
  chosen_record (LostFor whom) = None
  chosen_record (RefusedTo whom fault) = None

  -- a step
  abbrev pub step_effect : World → Step → Result Transition Fault
  step_effect w step = chosen_effect w (chosen w step)

  -- a step, cut with n bytes of its record kept
  abbrev pub cut_step : World → Step → ℕ → Result Transition Fault
  cut_step w step kept = chosen_cut w kept (chosen w step)

  -- the record that a step writes, if it writes one
  abbrev pub step_writes : World → Step → Option Rec
  step_writes w step = chosen_record (chosen w step)

-- the node that makes a step, if one does
abbrev pub stepping : World → Step → Option ℕ
stepping w step = node_chosen (chosen w step)

-- ---- stops and restarts

abbrev pub stops : World → ℕ → Option NodePart → Result Transition Fault
stops w me None = Err BadConfig
stops w me (Some part) = node_done_if w me (stop_effect part)

abbrev pub restarts : World → ℕ → Option NodePart → Result Transition Fault
restarts w me None = Err BadConfig
restarts w me (Some part) = Ok (node_done w me (restart_part part))

-- The effect of an event: its result, or the refusal, after which the world is as it was.
abbrev pub event_effect : {S : Type 0} → Setting S → World → Event → Result Transition Fault
event_effect s w (Submit task node object operation arg) =
    task_takes s.config w task (tasks.Submit node object operation arg) (part_at w.tasks task)
event_effect s w (Again task node) =
    task_takes s.config w task (tasks.Again node) (part_at w.tasks task)
event_effect s w (Makes step) = step_effect s w step
event_effect s w (Cut step kept) = cut_step s w step kept
event_effect s w (Stop me) = stops w me (part_at w.nodes me)
event_effect s w (Restart me) = restarts w me (part_at w.nodes me)

-- the node that an event happens to, if it is one
abbrev pub node_of : World → Event → Option ℕ
node_of w (Submit task node object operation arg) = None
node_of w (Again task node) = None
node_of w (Makes step) = stepping w step
node_of w (Cut step kept) = stepping w step
node_of w (Stop me) = Some me
node_of w (Restart me) = Some me
