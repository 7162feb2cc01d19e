-- The world behind an installation: it has each step whose packets were handed on, and of each node
-- the steps up to some place within what is synced. The later ones are pending.
use Rattle.std.specs.Prelude.{◌≡◌, ℕ, ◌+◌, Some, None, List, [], ◌∷◌, ◌++◌, length, map}
use Rattle.rp_base.specs.Sets.{Has}
use Rattle.rp_base.specs.declared.action.Action.{Action}
use Rattle.rp_model.specs.rp_codec.specs.Message.{Message}
use Rattle.rp_model.specs.rp_codec.specs.Text.{text_of, reply_text}
use Rattle.rp_world.specs.rp_store.specs.Records.{AreTextsOf, AreRecordsOf}
use Rattle.rp_model.specs.Effect.{Setting}
use Rattle.rp_model.specs.Parts.{NodePart, TaskPart, fresh_task}
use Rattle.rp_model.specs.World.{World, part_at}
use Rattle.rp_agreement.specs.Answered.{calls_so_far}
use Rattle.rp_agreement.specs.History.{IsHistory}
use Rattle.rp_model.specs.Events.{Event}
use Rattle.rp_world.specs.rp_outbox.specs.Packets.{texts_of}
use Rattle.rp_installations.specs.Making.{AreAmong, notes_of}
use Rattle.rp_installations.specs.Pending.{PendingStep, AreSteps, after_steps, bytes_of, bytes_written}
use Rattle.rp_installations.specs.Pending.{noted_in}
use Rattle.rp_world.specs.rp_replica.specs.State.{part_of}
use Rattle.rp_requests.specs.Nodes.{NodeState}
use Rattle.rp_requests.specs.rp_tasks.specs.Calls.{Calls}
use Rattle.rp_installations.specs.Sites.{StepPackets, NodeSite, TaskSite, Installation, closed_over}
use Rattle.rp_installations.specs.Moves.{all_given}
use Rattle.rp_installations.specs.Starts.{AnswerAlike}

-- where the device ends once it has the bytes of a step, if it had n before
abbrev pub end_after : ℕ → PendingStep → ℕ
end_after from step = from + length (bytes_written step.turn.written)

-- the packets of the steps
abbrev pub packets_of : ℕ → List PendingStep → List StepPackets
packets_of from [] = []
packets_of from (step ∷ rest) =
    record { texts = texts_of step.turn.sent; end = end_after from step }
    ∷ packets_of (end_after from step) rest

-- the texts are those of packets that were sent
pub record AreTextsSent (sent : List Message) (texts : List ℕ) : Type 0 where
  pub messages : List Message
  pub joined : texts ≡ texts_of messages
  pub all : (m : Message) → Has m messages → Has m sent

-- the node runs in this setting, under this number, from a start that answers alike
pub record IsSetUp {S : Type 0} (s : Setting S) (me : ℕ) (node : NodeState S) : Type 0 where
  pub me_is : node.replica.me ≡ me
  pub config : node.replica.config ≡ s.config
  pub begin : AnswerAlike s.next s.answers node.replica.begin s.begin

-- An open node. The world's records of it are synced, at the front of its device; its pending steps
-- lead from its part in the world to what its handle keeps, and gave what is after these records;
-- and the packets of all other steps that it made since it was opened are in the world.
pub record IsOpenOver {S : Type 0} (s : Setting S) (sent : List Message) (me : ℕ) (part : NodePart)
    (site : NodeSite S) : Type 0 where
  pub node : NodeState S
  pub kept : site.node ≡ Some node
  pub set_up : IsSetUp s me node
  pub untorn : part.torn ≡ 0
  pub bytes : List ℕ
  pub records : AreTextsOf part.records bytes
  pub rest : List ℕ
  pub synced : site.synced ≡ bytes ++ rest
  pub steps : List PendingStep
  pub made : AreSteps s sent me part steps
  pub reached : part_of node.replica ≡ after_steps part steps
  pub given : all_given site ≡ bytes ++ bytes_of steps
  pub settled : List StepPackets
  pub packets : site.step_packets ≡ settled ++ packets_of (length bytes) steps
  pub are_sent : (p : StepPackets) → Has p settled → AreTextsSent sent p.texts
  pub noted : AreAmong (noted_in steps) site.noted

-- A closed node: its device holds the records that it has in the world, and the torn bytes.
pub record IsClosedOver {S : Type 0} (part : NodePart) (site : NodeSite S) : Type 0 where
  pub closed : site ≡ closed_over site.synced site.noted
  pub torn : List ℕ
  pub records : AreRecordsOf site.synced part.records torn
  pub torn_is : part.torn ≡ length torn

-- a node's site, over its part in the world
pub data IsNodeOver {S : Type 0} (s : Setting S) (sent : List Message) (me : ℕ) (part : NodePart)
    (site : NodeSite S) : Type 0 where
  IsOpen : IsOpenOver s sent me part site → IsNodeOver s sent me part site
  IsClosed : IsClosedOver part site → IsNodeOver s sent me part site

-- what a task's handle keeps of its part in the world
abbrev pub calls_kept : ℕ → TaskPart → Calls
calls_kept task part =
    record { task = task; made = calls_so_far part; outstanding = part.outstanding }

-- A task's site, over its part in the world: its handle keeps the calls of the world's task, and
-- its requests returned the replies that this task got.
pub record IsTaskOver (task : ℕ) (part : TaskPart) (site : TaskSite) : Type 0 where
  pub unopened : site.task ≡ None → part ≡ fresh_task
  pub opened : (calls : Calls) → site.task ≡ Some calls → calls ≡ calls_kept task part
  pub replies : site.replies ≡ map (λ answer. reply_text answer.reply) part.replies

-- Each node and each task is over its part in the world, and each packet that was handed on was
-- sent in it.
pub record IsBehind {S : Type 0} (s : Setting S) (w : World) (i : Installation S) : Type 0 where
  pub nodes : (me : ℕ) (site : NodeSite S) → part_at i.nodes me ≡ Some site
      → (part : NodePart) × (part_at w.nodes me ≡ Some part) × IsNodeOver s w.sent me part site
  pub tasks : (t : ℕ) (site : TaskSite) → part_at i.tasks t ≡ Some site
      → (part : TaskPart) × (part_at w.tasks t ≡ Some part) × IsTaskOver t part site
  pub eight_tasks : length i.tasks ≡ 8
  pub packets : (packet : List ℕ) → Has packet i.handed_on
      → (m : Message) × Has m w.sent × (packet ≡ text_of m)

-- a node of the installation was asked to note the action
abbrev pub WasAskedFor : {S : Type 0} → Installation S → Action → Type 0
WasAskedFor {S} i v =
    (me : ℕ) × (site : NodeSite S) × (part_at i.nodes me ≡ Some site) × Has v site.noted

-- what the events note some node was asked to note
abbrev pub AreAskedFor : {S : Type 0} → Installation S → List Event → Type 0
AreAskedFor i happened =
    (event : Event) → Has event happened → (v : Action) → Has v (notes_of event) → WasAskedFor i v

-- Right events lead to a world that is behind the installation; they note what nodes were asked to
-- note, and nothing else.
pub record HasHistory {S : Type 0} (s : Setting S) (i : Installation S) : Type 0 where
  pub events : List Event
  pub world : World
  pub history : IsHistory s events world
  pub behind : IsBehind s world i
  pub noted : AreAskedFor i events

-- These events and further ones lead to a world that is behind the installation; the further ones
-- note what nodes were asked to note.
pub record HasLonger {S : Type 0} (s : Setting S) (events : List Event) (i : Installation S)
    : Type 0 where
  pub more : List Event
  pub world : World
  pub history : IsHistory s (events ++ more) world
  pub behind : IsBehind s world i
  pub noted : AreAskedFor i more
