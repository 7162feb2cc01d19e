-- A refusal of a node's proposal, and what the next command to lead leads to.
use Rattle.std.specs.Prelude.{◌≡◌, ℕ, ◌<◌, ◌≤◌, false, Some, None, List}
use Rattle.rp_base.specs.Proposals.{Proposal, proposal_at, without_proposal}
use Rattle.rp_base.specs.Records.{learned_at}
use Rattle.rp_base.specs.Sets.{Has}
use Rattle.rp_base.specs.declared.record.Rec.{Rec}
use Rattle.rp_base.specs.declared.record.Rec.TheVariants.{Started}
use Rattle.rp_model.specs.rp_codec.specs.declared.packet.Body.TheVariants.{Prepare}
use Rattle.rp_model.specs.rp_codec.specs.declared.packet.Party.TheVariants.{Node}
use Rattle.rp_model.specs.Effect.{Setting}
use Rattle.rp_model.specs.Leader.{least_free, is_out_of_reach}
use Rattle.rp_model.specs.Parts.{Running, Turn}

-- A proposal runs at the position, in this ballot, in which none runs elsewhere. The position is
-- within reach and not learned, and is the least free one but for this proposal.
pub record IsNextInTurn {S : Type 0} (s : Setting S) (i b : ℕ) (records : List Rec)
    (running : Running) : Type 0 where
  pub p : Proposal
  pub runs : proposal_at running.proposals i ≡ Some p
  pub ballot : p.ballot ≡ b
  pub alone : (q : Proposal) → Has q running.proposals → q.ballot ≡ b → q.position ≡ i
  pub near : is_out_of_reach s.config.max_positions records i ≡ false
  pub unlearned : learned_at records i ≡ None
  pub least : least_free s.config.nodes records (without_proposal running.proposals i) ≡ i

-- The node leads at the position in a ballot above the bound: it writes the ballot down, and asks
-- each node for a promise.
pub record LeadsAbove {S : Type 0} (s : Setting S) (me i bound : ℕ) (turn : Turn) : Type 0 where
  pub ballot : ℕ
  pub above : bound < ballot
  pub written : turn.written ≡ Some (Started ballot)
  pub asks : (k : ℕ) → 1 ≤ k → k ≤ s.config.nodes
      → Has (record { from = Node me; to = Node k; body = Prepare i ballot }) turn.sent
