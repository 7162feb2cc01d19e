-- Histories in which tasks get replies, for every count of nodes and every task.
use Rattle.std.specs.Prelude.{◌≡◌, ℕ, ◌+◌, Bool, true, false, nat_eq, Some, List, []}
use Rattle.std.specs.Prelude.{◌∷◌, ◌++◌, length, map, if◌then◌else◌}
use Rattle.std.specs.List.{list_all}
use Rattle.rp_base.specs.Config.{IsRightConfig}
use Rattle.rp_base.specs.Majority.{majority_of}
use Rattle.rp_base.specs.Records.{applied_of}
use Rattle.rp_base.specs.Sets.{Has}
use Rattle.rp_base.specs.declared.action.Action.{Action}
use Rattle.rp_base.specs.declared.action.Action.TheVariants.{Noop, Call, Interrupt, Tick}
use Rattle.rp_base.specs.declared.reply.Answer.{Answer}
use Rattle.rp_base.specs.declared.reply.Reply.{Reply}
use Rattle.rp_model.specs.Answers.{Happen}
use Rattle.rp_model.specs.Effect.{Setting}
use Rattle.rp_model.specs.Events.{Event, IsRightEvent, Submit, Makes, Stop}
use Rattle.rp_model.specs.Events.{Deliver, Lead}
use Rattle.rp_model.specs.Parts.{NodePart, TaskPart}
use Rattle.rp_model.specs.World.{World, opening_world, part_at}

-- In a right configuration, these right events lead from the opening world to this one.
pub record Reaches {S : Type 0} (s : Setting S) (events : List Event) (w : World) : Type 0 where
  pub config : IsRightConfig s.config
  pub right : (event : Event) → Has event events → IsRightEvent event
  pub happened : Happen s (opening_world s.config.nodes) events w

-- the task got these replies, and no others
abbrev pub HasReplies : World → ℕ → List Answer → Type 0
HasReplies w task answers =
    (part : TaskPart) × (part_at w.tasks task ≡ Some part) × (part.replies ≡ answers)

-- the reply to the task's call of this number
abbrev pub answer_of : ℕ → ℕ → Reply → Answer
answer_of task number reply = record { task = task; number = number; reply = reply }

-- a machine that answers each call at once, by these replies
abbrev pub at_once : {S : Type 0} → (S → Action → Reply) → S → Action → List Answer
at_once replies state Noop = []
at_once replies state (Call task number object operation arg) =
    answer_of task number (replies state (Call task number object operation arg)) ∷ []
at_once replies state (Interrupt source occurrence) = []
at_once replies state (Tick now) = []

-- this many nodes, a log of n positions, and a machine that answers each call at once
abbrev pub prompt_nodes : {S : Type 0} → ℕ → ℕ → (S → Action → S) → (S → Action → Reply) → S
    → Setting S
prompt_nodes nodes positions next replies begin =
    record {
      config = record { nodes = nodes; max_positions = positions };
      next = next;
      answers = at_once replies;
      begin = begin;
    }

-- a task makes a call, a packet is delivered, or a node leads
abbrev pub is_plain : Event → Bool
is_plain (Submit task node object operation arg) = true
is_plain (Makes (Deliver number)) = true
is_plain (Makes (Lead node choice)) = true
is_plain event = false

-- no other node leads than this one
abbrev pub is_led_by : ℕ → Event → Bool
is_led_by leader (Makes (Lead node choice)) = nat_eq node leader
is_led_by leader event = true

-- In some history all nodes stop at first but a bare majority, and none of them starts again; this
-- node alone leads; no task asks twice for one call; and the task gets these replies.
pub record AreReplied {S : Type 0} (s : Setting S) (leader task : ℕ) (answers : List Answer)
    : Type 0 where
  pub absent : List ℕ
  pub events : List Event
  pub world : World
  pub bare : length absent + majority_of s.config.nodes ≡ s.config.nodes
  pub plain : list_all is_plain events ≡ true
  pub led : list_all (is_led_by leader) events ≡ true
  pub reached : Reaches s (map Stop absent ++ events) world
  pub replied : HasReplies world task answers

-- ---- a call that waits

-- A machine that lets the calls of one task wait, and answers each other call at once and that
-- task's first call with it.
abbrev pub served : {S : Type 0} → ℕ → (S → Action → Reply) → (S → Action → Reply) → S → Action
    → List Answer
served waits replies late state Noop = []
served waits replies late state (Call task number object operation arg) =
    let call : Action = Call task number object operation arg in
    if nat_eq task waits then []
    else answer_of task number (replies state call) ∷ answer_of waits 1 (late state call) ∷ []
served waits replies late state (Interrupt source occurrence) = []
served waits replies late state (Tick now) = []

-- three nodes, a log of two positions, and such a machine
abbrev pub late_nodes : {S : Type 0} → ℕ → (S → Action → S) → (S → Action → Reply)
    → (S → Action → Reply) → S → Setting S
late_nodes waits next replies late begin =
    record {
      config = record { nodes = 3; max_positions = 2 };
      next = next;
      answers = served waits replies late;
      begin = begin;
    }

-- the node has applied these actions
abbrev pub HasAppliedAll : World → ℕ → List Action → Type 0
HasAppliedAll w node actions =
    (part : NodePart) × (part_at w.nodes node ≡ Some part)
    × (applied_of part.records ≡ actions)

-- In some history a task's call, asked of node 1, takes effect there and waits; then this other
-- node leads and another task's call takes effect; and both tasks get their replies, though each
-- asked once.
pub record IsServedLater {S : Type 0} (s : Setting S) (leader : ℕ) (call : Action)
    (late other : Answer)
    : Type 0 where
  pub before : List Event
  pub after : List Event
  pub middle : World
  pub world : World
  pub first : Reaches s before middle
  pub waiting : HasAppliedAll middle 1 (call ∷ [])
  pub plain : list_all is_plain (before ++ after) ≡ true
  pub led : list_all (is_led_by leader) after ≡ true
  pub reached : Reaches s (before ++ after) world
  pub replied : HasReplies world late.task (late ∷ [])
  pub other_replied : HasReplies world other.task (other ∷ [])
