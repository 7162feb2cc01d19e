-- A world whose numbers are within the ranges of their types: each packet of it is one.
use Rattle.std.specs.Prelude.{◌≡◌, ℕ, false, Some, IfSome, length}
use Rattle.rp_base.specs.Action.{IsRight}
use Rattle.rp_base.specs.Ballot.{IsBallot}
use Rattle.rp_base.specs.Number.{IsPosition}
use Rattle.rp_base.specs.Proposals.{Proposal}
use Rattle.rp_base.specs.Right.{IsRightVote}
use Rattle.rp_base.specs.Sets.{Has}
use Rattle.rp_base.specs.declared.action.Action.{Action}
use Rattle.rp_base.specs.declared.record.Rec.{Rec}
use Rattle.rp_base.specs.declared.record.Vote.{Vote}
use Rattle.rp_codec.specs.declared.packet.Party.{Party}
use Rattle.rp_codec.specs.declared.packet.Party.TheVariants.{Node}
use Rattle.rp_codec.specs.declared.packet.Body.TheVariants.{Accepted}
use Rattle.rp_model.specs.Leader.{is_beyond}
use Rattle.rp_codec.specs.Message.{Message, IsPacket}
use Rattle.rp_codec.specs.Record.{IsRecord}
use Rattle.rp_model.specs.Effect.{Done}
use Rattle.rp_model.specs.World.{World, part_at}
use Rattle.rp_model.specs.Parts.{Running}
use Rattle.rp_model.specs.Parts.{NodePart}
use Rattle.rp_model.specs.Parts.{TaskPart}
use Rattle.rp_agreement.specs.Inputs.{WaitsForOwn}

-- a proposal's position and ballot are ones, and what it may offer is right
pub record IsRangedProposal (p : Proposal) : Type 0 where
  pub position : IsPosition p.position
  pub ballot : IsBallot p.ballot
  pub own : IfSome p.own IsRight
  pub reported : (a : ℕ) (vote : Vote) → Has (a, Some vote) p.promises → IsRightVote vote

-- what a node proposes, and what waits to be proposed, is right
pub record IsRangedRunning (running : Running) : Type 0 where
  pub proposals : (p : Proposal) → Has p running.proposals → IsRangedProposal p
  pub pending : (item : Action) → Has item running.pending → IsRight item

-- each record is one, and what a node knows while it runs is right
pub record IsRangedPart (part : NodePart) : Type 0 where
  pub records : (rec : Rec) → Has rec part.records → IsRecord rec
  pub running : IfSome part.running IsRangedRunning

-- A world of n nodes: every node's part is so, each task waits for a right call of its own, and
-- every packet ever sent is one.
pub record IsRangedWorld (nodes : ℕ) (w : World) : Type 0 where
  pub size : length w.nodes ≡ nodes
  pub parts : (part : NodePart) → Has part w.nodes → IsRangedPart part
  pub waits : (t : ℕ) (part : TaskPart) → part_at w.tasks t ≡ Some part → WaitsForOwn t part
  pub packets : (m : Message) → Has m w.sent → IsPacket m

-- the result of a step of a node is so, and each packet that it sends is one, from that node
pub record IsRangedStep (x : ℕ) (done : Done NodePart) : Type 0 where
  pub part : IsRangedPart done.part
  pub packets : (m : Message) → Has m done.sends → IsPacket m
  pub own : (m : Message) → Has m done.sends → m.from ≡ Node x

-- Every vote that was sent to a node is for a position less than 64 above the first that the node
-- has not learned.
abbrev pub AreVotesNear : World → Type 0
AreVotesNear w =
    (from : Party) (x i b : ℕ) (v : Action)
    → Has (record { from = from; to = Node x; body = Accepted i b v }) w.sent
    → (part : NodePart) → part_at w.nodes x ≡ Some part → is_beyond part.records i ≡ false
