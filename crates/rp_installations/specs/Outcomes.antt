-- What nodes and tasks of an installation have in common.
use Rattle.std.specs.Prelude.{◌≡◌, ℕ, suc, Some, List, [], length, take, drop, slice_get}
use Rattle.rp_base.specs.Records.{applied_of}
use Rattle.rp_base.specs.Sets.{Has}
use Rattle.rp_base.specs.declared.action.Action.{Action}
use Rattle.rp_base.specs.declared.action.Action.TheVariants.{Noop, Call, Interrupt, Tick}
use Rattle.rp_base.specs.declared.reply.Answer.{Answer}
use Rattle.rp_model.specs.rp_codec.specs.Text.{reply_text}
use Rattle.rp_model.specs.rp_machine.specs.Places.{HasReply}
use Rattle.rp_model.specs.Effect.{Setting}
use Rattle.rp_model.specs.Events.{Event}
use Rattle.rp_model.specs.Parts.{TaskPart}
use Rattle.rp_model.specs.World.{World, part_at}
use Rattle.rp_agreement.specs.Answered.{named}
use Rattle.rp_agreement.specs.History.{IsHistory}
use Rattle.rp_agreement.specs.Order.{IsPrefix, AreAlike}
use Rattle.rp_world.specs.rp_replica.specs.State.{part_of}
use Rattle.rp_requests.specs.Nodes.{NodeState, image_of}
use Rattle.rp_requests.specs.declared.buffer.Lengths.{Lengths}
use Rattle.rp_world.specs.Agreeing.{IsOrdered}
use Rattle.rp_installations.specs.Behind.{IsTaskOver, WasAskedFor, AreAskedFor}
use Rattle.rp_installations.specs.Sites.{NodeSite, TaskSite, Installation}

-- a node of the installation is open, and its handle keeps this node
pub record IsOpenAt {S : Type 0} (i : Installation S) (me : ℕ) (site : NodeSite S)
    (node : NodeState S) : Type 0 where
  pub site_is : part_at i.nodes me ≡ Some site
  pub node_is : site.node ≡ Some node

-- all that its steps gave for the device is synced
pub record IsAllSynced {S : Type 0} (site : NodeSite S) : Type 0 where
  pub appended : site.appended ≡ []
  pub given : site.given ≡ []

-- what a node has applied
abbrev pub applied_by : {S : Type 0} → NodeState S → List Action
applied_by node = applied_of node.replica.records

module _ {S : Type 0} (next : S → Action → S) (answers : S → Action → List Answer)
    (image : S → List ℕ) (begin : S) where
  -- Of what two nodes have applied one is a prefix of the other, and if they have applied equally
  -- many actions they show the same objects.
  pub record AgreeAs (one other : NodeState S) : Type 0 where
    pub applied : AreAlike (applied_by one) (applied_by other)
    pub images : length (applied_by one) ≡ length (applied_by other)
        → image_of next answers image one ≡ image_of next answers image other

module _ {S : Type 0} (next : S → Action → S) (answers : S → Action → List Answer) (begin : S) where
  -- the kth reply that a request of the task returned is the answer that the order gives to its kth
  -- call, at the one place of the order where this call takes effect
  abbrev pub IsReplyTo : List Action → ℕ → ℕ → List ℕ → Type 0
  IsReplyTo order task k reply =
      (answer : Answer) × HasReply next answers begin order (named task k) answer
      × (reply ≡ reply_text answer.reply)

-- The buffer has what the node's last step gave: first what goes to the device, then the packets.
pub record GivesAnswer {S : Type 0} (node : NodeState S) (buffer : List ℕ) (lengths : Lengths)
    : Type 0 where
  pub stored : take lengths.stored buffer ≡ node.stored
  pub packets : drop lengths.stored (take lengths.used buffer) ≡ node.packets

-- Right events lead to a world in which each open node is as its handle keeps it, and in which each
-- task got the replies that its requests returned. Steps whose packets were not handed on yet have
-- happened in it, so it may be ahead of what is synced. The events note what nodes were asked to
-- note, and nothing else.
pub record HasWorldNow {S : Type 0} (s : Setting S) (i : Installation S) : Type 0 where
  pub events : List Event
  pub world : World
  pub history : IsHistory s events world
  pub nodes : (x : ℕ) (site : NodeSite S) (node : NodeState S) → IsOpenAt i x site node
      → part_at world.nodes x ≡ Some (part_of node.replica)
  pub tasks : (t : ℕ) (site : TaskSite) → part_at i.tasks t ≡ Some site
      → (part : TaskPart) × (part_at world.tasks t ≡ Some part) × IsTaskOver t part site
  pub noted : AreAskedFor i events

-- the action is no interrupt and no tick, or a node was asked to note it
abbrev pub IsAskedFor : {S : Type 0} → Installation S → Action → Type 0
IsAskedFor i Noop = Unit {0}
IsAskedFor i (Call task number object operation arg) = Unit {0}
IsAskedFor i (Interrupt source occurrence) = WasAskedFor i (Interrupt source occurrence)
IsAskedFor i (Tick now) = WasAskedFor i (Tick now)

-- There is one order of all that is decided in such a world: what each open node has applied is a
-- prefix of it, each reply that a request of a task returned is the one that it gives, and a node
-- was asked to note each interrupt and each tick in it.
pub record HasOrder {S : Type 0} (s : Setting S) (i : Installation S) : Type 0 where
  pub now : HasWorldNow s i
  pub ordered : IsOrdered s.next s.answers s.begin s.config.nodes now.world
  pub applied : (x : ℕ) (site : NodeSite S) (node : NodeState S) → IsOpenAt i x site node
      → IsPrefix (applied_by node) ordered.order
  pub replies : (t k : ℕ) (site : TaskSite) (reply : List ℕ) → part_at i.tasks t ≡ Some site
      → slice_get site.replies k ≡ Some reply
      → IsReplyTo s.next s.answers s.begin ordered.order t (suc k) reply
  pub noted : (v : Action) → Has v ordered.order → IsAskedFor i v
