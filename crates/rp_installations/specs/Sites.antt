-- What callers keep of the nodes and the tasks of one configuration.
use Rattle.std.specs.Prelude.{ℕ, Option, None, List, [], replicate}
use Rattle.rp_base.specs.declared.action.Action.{Action}
use Rattle.rp_requests.specs.Nodes.{NodeState}
use Rattle.rp_requests.specs.rp_tasks.specs.Calls.{Calls}

-- The packets of a step's answer, joined, and how many bytes the device has once it holds all that
-- the node's steps gave for it, up to this step.
pub record StepPackets : Type 0 where
  pub texts : List ℕ
  pub end : ℕ

-- A node: the node that its open handle keeps, if one is open; the bytes of its device that are
-- synced, the bytes appended after them since, and those that steps gave for the device and that
-- are not appended yet; the packets of the steps that it made since it was opened; and the
-- interrupts and ticks that it was ever asked to note, by steps that it made.
pub record NodeSite (S : Type 0) : Type 0 where
  pub node : Option (NodeState S)
  pub synced : List ℕ
  pub appended : List ℕ
  pub given : List ℕ
  pub step_packets : List StepPackets
  pub noted : List Action

-- A task: the task that its handle keeps, once it was opened; and the replies that its requests
-- returned, in order.
pub record TaskSite : Type 0 where
  pub task : Option Calls
  pub replies : List (List ℕ)

-- The nodes and the tasks, each from number 1, and every packet that was handed on.
pub record Installation (S : Type 0) : Type 0 where
  pub nodes : List (NodeSite S)
  pub tasks : List TaskSite
  pub handed_on : List (List ℕ)

-- a node that is closed, what its device holds, and what it was asked to note
abbrev pub closed_over : {S : Type 0} → List ℕ → List Action → NodeSite S
closed_over bytes noted = record {
  node = None;
  synced = bytes;
  appended = [];
  given = [];
  step_packets = [];
  noted = noted;
}

-- a task that was not opened
abbrev pub unopened_task : TaskSite
unopened_task = record { task = None; replies = [] }

-- nothing was opened, and the devices are empty
abbrev pub nothing_opened : {S : Type 0} → ℕ → Installation S
nothing_opened nodes = record {
  nodes = replicate nodes (closed_over [] []);
  tasks = replicate 8 unopened_task;
  handed_on = [];
}
