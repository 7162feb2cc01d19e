-- What callers do with the handles of a configuration's nodes and of its tasks, one move after
-- another, and the rules that they keep.
use Rattle.std.specs.Prelude.{◌≡◌, ℕ, ◌<◌, ◌≤◌, ◌^◌, Bool, true, false, nat_lt, Option, Some}
use Rattle.std.specs.Prelude.{None, IsSome, not}
use Rattle.std.specs.Prelude.{Result, Ok, Err, List, [], ◌∷◌, ◌++◌, length, take, drop}
use Rattle.std.specs.Prelude.{if◌then◌else◌}
use Rattle.std.specs.List.{AllByRecursion}
use Rattle.rp_base.specs.Sets.{Has}
use Rattle.rp_base.specs.declared.action.Action.{Action}
use Rattle.rp_base.specs.declared.config.Config.{Config}
use Rattle.rp_base.specs.declared.reply.Answer.{Answer}
use Rattle.rp_model.specs.rp_codec.specs.Message.{Message, IsPacket}
use Rattle.rp_model.specs.rp_codec.specs.Text.{text_of}
use Rattle.rp_model.specs.World.{part_at, with_part}
use Rattle.rp_world.specs.rp_outbox.specs.Packets.{texts_of}
use Rattle.rp_installations.specs.Pending.{noted_by}
use Rattle.rp_requests.specs.Nodes.{NodeState, RequestAnswers}
use Rattle.rp_requests.specs.Opening.{IsOpenedNode}
use Rattle.rp_requests.specs.Requests.{Asked, Step, asked_of}
use Rattle.rp_requests.specs.TaskRequests.{TaskAsked, MakeCall, SendAgain, TakePacket}
use Rattle.rp_requests.specs.TaskRequests.{task_asked_of}
use Rattle.rp_requests.specs.Tasks.{TaskAnswers}
use Rattle.rp_requests.specs.declared.buffer.Lengths.{Lengths}
use Rattle.rp_requests.specs.declared.refusal.Refusal.{Refusal}
use Rattle.rp_requests.specs.declared.refusal.Refusal.TheVariants.{LongAnswer}
use Rattle.rp_requests.specs.declared.not_taken.NotTaken.{NotTaken}
use Rattle.rp_requests.specs.declared.not_taken.NotTaken.TheVariants.{Early}
use Rattle.rp_requests.specs.rp_tasks.specs.Calls.{Calls, no_calls}
use Rattle.rp_installations.specs.Starts.{BehaveAlike}
use Rattle.rp_installations.specs.Sites.{StepPackets, NodeSite, TaskSite, Installation, closed_over}
use Rattle.rp_installations.specs.Sites.{nothing_opened}

-- A request in bytes, the caller's buffer before the answer and after it, and the answer.
pub record AnsweredRequest : Type 0 where
  pub request : List ℕ
  pub before : List ℕ
  pub after : List ℕ
  pub result : Result Lengths Refusal

-- each of them is a byte
abbrev pub AreBytes : List ℕ → Type 0
AreBytes bytes = (byte : ℕ) → Has byte bytes → byte < 2 ^ 8

-- The bytes are whole packets, one after another, and this is one of them.
pub record IsPacketIn (packet bytes : List ℕ) : Type 0 where
  pub messages : List Message
  pub each : AllByRecursion IsPacket messages
  pub texts : bytes ≡ texts_of messages
  pub message : Message
  pub one : Has message messages
  pub text : packet ≡ text_of message

-- the first byte of a request that brings a packet, to a node and to a task
abbrev pub node_receives_byte : ℕ
node_receives_byte = 1

abbrev pub task_receives_byte : ℕ
task_receives_byte = 3

-- A packet that a request brings was handed on before, byte for byte, by any node or task, for this
-- receiver or for another, and it may come as often as it will.
abbrev pub WasHandedOn : List (List ℕ) → ℕ → List ℕ → Type 0
WasHandedOn packets receives request =
    (packet : List ℕ) → request ≡ receives ∷ packet → Has packet packets

-- ---- nodes

-- a step was made: it was asked for, was not refused, and did not leave out a call that came early,
-- which is as if the call's packet were lost
abbrev pub is_left_out : NotTaken → Bool
is_left_out Early = true
is_left_out missed = false

abbrev pub is_step_made : Option Asked → Result Lengths Refusal → NotTaken → Bool
is_step_made (Some (Step input)) (Ok lengths) missed = not (is_left_out missed)
is_step_made (Some (Step input)) (Err (LongAnswer needed)) missed = true
is_step_made asked result missed = false

-- the interrupt or the tick that a node is asked to note, if one is asked for
abbrev pub noted_if : Option Asked → List Action
noted_if (Some (Step (Ok input))) = noted_by input
noted_if asked = []

-- what the device holds, and what it is yet to hold
abbrev pub all_given : {S : Type 0} → NodeSite S → List ℕ
all_given site = (site.synced ++ site.appended) ++ site.given

-- A step gives the bytes of its record for the device, and its packets.
abbrev pub with_step : {S : Type 0} → NodeSite S → NodeState S → List Action → NodeSite S
with_step site node noted = record {
  node = Some node;
  synced = site.synced;
  appended = site.appended;
  given = site.given ++ node.stored;
  step_packets = site.step_packets ++ record {
    texts = node.packets;
    end = length (all_given site ++ node.stored);
  } ∷ [];
  noted = site.noted ++ noted;
}

-- what a request leaves of a site, by what it asks to note and whether a step was made
abbrev pub site_answered : {S : Type 0} → NodeSite S → NodeState S → List Action → Bool
    → NodeSite S
site_answered site node noted true = with_step site node noted
site_answered site node noted false = record site { node = Some node }

-- What an open node gave first for its device is appended first, some bytes of it.
pub record Appends {S : Type 0} (before after : NodeSite S) : Type 0 where
  pub opened : IsSome before.node
  pub count : ℕ
  pub goes : after ≡ record before {
    appended = before.appended ++ take count before.given;
    given = drop count before.given;
  }

-- All that was appended to the device of an open node is synced.
pub record Syncs {S : Type 0} (before after : NodeSite S) : Type 0 where
  pub opened : IsSome before.node
  pub goes : after ≡ record before { synced = before.synced ++ before.appended; appended = [] }

-- An open node is closed or stops. Its device keeps what was synced, and a prefix of what was
-- appended since. What was not appended is lost, and so are the packets that were not handed on.
pub record Closes {S : Type 0} (before after : NodeSite S) : Type 0 where
  pub opened : IsSome before.node
  pub kept : ℕ
  pub goes : after ≡ closed_over (before.synced ++ take kept before.appended) before.noted

-- A packet of a step is handed on, once all is synced that the node's steps gave for the device, up
-- to this step.
pub record HandsOn {S : Type 0} (site : NodeSite S) (packet : List ℕ) : Type 0 where
  pub step : StepPackets
  pub made : Has step site.step_packets
  pub synced : step.end ≤ length site.synced
  pub one : IsPacketIn packet step.texts

-- ---- tasks

-- A call goes through a node of the configuration: no node has another number, and the model has no
-- such call.
abbrev pub IsThroughNode : ℕ → Option TaskAsked → Type 0
IsThroughNode nodes (Some (MakeCall node object operation arg)) = node ≤ nodes
IsThroughNode nodes (Some (SendAgain node)) = node ≤ nodes
IsThroughNode nodes (Some (TakePacket packet)) = Unit {0}
IsThroughNode nodes None = Unit {0}

-- the answer, if it has bytes
abbrev pub answer_in : AnsweredRequest → Result Lengths Refusal → List (List ℕ)
answer_in exchange (Ok lengths) =
    if nat_lt 0 lengths.used then take lengths.used exchange.after ∷ [] else []
answer_in exchange (Err refusal) = []

-- the packet that the answer to a call gives, and the reply that the answer to a packet gives
abbrev pub call_given : AnsweredRequest → Option TaskAsked → List (List ℕ)
call_given exchange (Some (MakeCall node object operation arg)) = answer_in exchange exchange.result
call_given exchange (Some (SendAgain node)) = answer_in exchange exchange.result
call_given exchange (Some (TakePacket packet)) = []
call_given exchange None = []

abbrev pub reply_given : AnsweredRequest → Option TaskAsked → List (List ℕ)
reply_given exchange (Some (TakePacket packet)) = answer_in exchange exchange.result
reply_given exchange (Some (MakeCall node object operation arg)) = []
reply_given exchange (Some (SendAgain node)) = []
reply_given exchange None = []

-- A task is opened, once.
pub record OpensTask (task : ℕ) (before after : TaskSite) : Type 0 where
  pub once : before.task ≡ None
  pub goes : after ≡ record before { task = Some (no_calls task) }

-- A request to a task. Its call's packet may be handed on at once.
pub record AsksTask (nodes : ℕ) (packets : List (List ℕ)) (before after : TaskSite)
    (given : List (List ℕ)) : Type 0 where
  pub exchange : AnsweredRequest
  pub old : Calls
  pub new : Calls
  pub opened : before.task ≡ Some old
  pub bytes : AreBytes exchange.request
  pub arrived : WasHandedOn packets task_receives_byte exchange.request
  pub through : IsThroughNode nodes (task_asked_of exchange.request)
  pub answers : TaskAnswers (task_asked_of exchange.request) old new exchange.before exchange.after
      exchange.result
  pub goes : after ≡ record {
    task = Some new;
    replies = before.replies ++ reply_given exchange (task_asked_of exchange.request);
  }
  pub gives : given ≡ call_given exchange (task_asked_of exchange.request)

-- What a task's caller does, and the packets that it hands on by that.
pub data TaskMove (nodes : ℕ) (packets : List (List ℕ)) (task : ℕ) (before after : TaskSite)
    (given : List (List ℕ)) : Type 0 where
  Opened : OpensTask task before after → given ≡ []
      → TaskMove nodes packets task before after given
  Called : AsksTask nodes packets before after given
      → TaskMove nodes packets task before after given

-- ---- moves

-- Of a configuration of n nodes: how a node is opened over the bytes of its device, with how many
-- records, and how many bytes they have; and how an open node answers.
module _ {S : Type 0} (nodes : ℕ) (Opens : ℕ → List ℕ → NodeState S → ℕ → ℕ → Type 0)
    (AnswersAs : AnsweredRequest → NodeState S → NodeState S → Type 0) where
  -- A node that is closed is opened over the bytes of its device. The bytes after the last whole
  -- record are truncated, and what is left is synced.
  pub record OpensSite (me : ℕ) (before after : NodeSite S) : Type 0 where
    pub closed : before.node ≡ None
    pub node : NodeState S
    pub records : ℕ
    pub kept : ℕ
    pub opens : Opens me before.synced node records kept
    pub goes : after
        ≡ record (closed_over (take kept before.synced) before.noted) { node = Some node }

  -- A request to a node that is open, whatever it asks and whatever the answer.
  pub record AsksSite (packets : List (List ℕ)) (before after : NodeSite S) : Type 0 where
    pub exchange : AnsweredRequest
    pub old : NodeState S
    pub new : NodeState S
    pub opened : before.node ≡ Some old
    pub bytes : AreBytes exchange.request
    pub arrived : WasHandedOn packets node_receives_byte exchange.request
    pub answers : AnswersAs exchange old new
    pub goes : after
        ≡ site_answered before new (noted_if (asked_of exchange.request))
        (is_step_made (asked_of exchange.request) exchange.result new.not_taken)

  -- What a node's caller does, and the packets that it hands on by that.
  pub data NodeMove (packets : List (List ℕ)) (me : ℕ) (before after : NodeSite S)
      (given : List (List ℕ)) : Type 0 where
    Opened : OpensSite me before after → given ≡ [] → NodeMove packets me before after given
    Requested : AsksSite packets before after → given ≡ [] → NodeMove packets me before after given
    Appended : Appends before after → given ≡ [] → NodeMove packets me before after given
    Synced : Syncs before after → given ≡ [] → NodeMove packets me before after given
    HandedOn : (packet : List ℕ) → HandsOn before packet → after ≡ before → given ≡ packet ∷ []
        → NodeMove packets me before after given
    Closed : Closes before after → given ≡ [] → NodeMove packets me before after given

  -- One move, of one node or one task; all others stay as they are.
  pub data Move (before after : Installation S) : Type 0 where
    OfNode : (me : ℕ) (site changed : NodeSite S) (given : List (List ℕ))
        → part_at before.nodes me ≡ Some site → NodeMove before.handed_on me site changed given
        → after ≡ record before {
          nodes = with_part before.nodes me changed;
          handed_on = before.handed_on ++ given;
        } → Move before after
    OfTask : (task : ℕ) (site changed : TaskSite) (given : List (List ℕ))
        → part_at before.tasks task ≡ Some site
        → TaskMove nodes before.handed_on task site changed given
        → after ≡ record before {
          tasks = with_part before.tasks task changed;
          handed_on = before.handed_on ++ given;
        } → Move before after

  -- Moves lead from the one to the other, by way of these.
  abbrev pub Moves : Installation S → List (Installation S) → Installation S → Type 0
  Moves before [] after = after ≡ before
  Moves before (middle ∷ rest) after = Move before middle × Moves middle rest after

-- ---- nodes of a machine

-- A node is opened in this configuration, at a start that behaves as the machine's: two readings of
-- one text may give values that differ in memory.
pub record OpensFrom {S : Type 0} (next : S → Action → S) (answers : S → Action → List Answer)
    (image : S → List ℕ) (config : Config) (begin : S) (me : ℕ) (bytes : List ℕ)
    (node : NodeState S) (records kept : ℕ) : Type 0 where
  pub start : S
  pub alike : BehaveAlike next answers image start begin
  pub opens : IsOpenedNode me config start bytes node records kept

-- it answers by the machine
abbrev pub AnswersBy : {S : Type 0} → (S → Action → S) → (S → Action → List Answer) → (S → List ℕ)
    → AnsweredRequest → NodeState S → NodeState S → Type 0
AnswersBy next answers image exchange old new =
    RequestAnswers next answers image (asked_of exchange.request) old new exchange.before exchange.after
    exchange.result

module _ {S : Type 0} (next : S → Action → S) (answers : S → Action → List Answer)
    (image : S → List ℕ) (config : Config) (begin : S) where
  -- Moves of nodes of this machine lead from the one to the other.
  abbrev pub MachineMoves : Installation S → List (Installation S) → Installation S → Type 0
  MachineMoves =
      Moves config.nodes (OpensFrom next answers image config begin)
      (AnswersBy next answers image)

  -- They lead there from the state in which nothing was opened.
  abbrev pub IsInstallation : List (Installation S) → Installation S → Type 0
  IsInstallation moves after = MachineMoves (nothing_opened config.nodes) moves after
