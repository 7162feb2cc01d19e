-- What the packets of a world say, and what it has decided. Lamport, "Paxos Made Simple", section
-- 2.2: a value is chosen when a majority of acceptors have accepted it in one proposal.
use Rattle.std.specs.Prelude.{◌≡◌, ℕ, suc, ◌≤◌, true, Option, Some, List, length, slice_get}
use Rattle.rp_base.specs.declared.action.Action.{Action}
use Rattle.rp_base.specs.declared.record.Vote.{Vote}
use Rattle.rp_base.specs.Sets.{Has}
use Rattle.rp_base.specs.Ranges.{is_covered}
use Rattle.rp_base.specs.PlacedVotes.{placed_at}
use Rattle.rp_base.specs.Majority.{majority_of, AreNodes}
use Rattle.rp_codec.specs.Message.{Message}
use Rattle.rp_codec.specs.declared.packet.Party.TheVariants.{Node}
use Rattle.rp_codec.specs.declared.packet.Body.{Body}
use Rattle.rp_codec.specs.declared.packet.Body.TheVariants as bodies

-- the body promises the ballot at the position, with this last vote; one for a range does at each
-- of its positions; no other kind promises
abbrev pub IsPromise : Body → ℕ → ℕ → Option Vote → Type 0
IsPromise (bodies.Promise position ballot stated) i b last =
    (position ≡ i) × (ballot ≡ b) × (stated ≡ last)
IsPromise (bodies.PromiseRange range ballot votes) i b last =
    (is_covered range i ≡ true) × (ballot ≡ b) × (placed_at votes i ≡ last)
IsPromise _ i b last = ⊥

-- a node said that it promises, with this last vote
abbrev pub HasPromised : List Message → ℕ → ℕ → ℕ → Option Vote → Type 0
HasPromised sent a i b last =
    (m : Message) × Has m sent × (m.from ≡ Node a) × IsPromise m.body i b last

-- a node said to some node that it voted
abbrev pub HasVoted : List Message → ℕ → ℕ → ℕ → Action → Type 0
HasVoted sent a i b v =
    (to : ℕ) × Has (record { from = Node a; to = Node to; body = bodies.Accepted i b v }) sent

-- some node offered the action to some node
abbrev pub IsOffered : List Message → ℕ → ℕ → Action → Type 0
IsOffered sent i b v =
    (from to : ℕ) × Has (record { from = Node from; to = Node to; body = bodies.Accept i b v }) sent

-- decided: in one ballot more than half of the nodes have voted for the action
pub record IsDecided (nodes : ℕ) (sent : List Message) (i : ℕ) (v : Action) : Type 0 where
  pub ballot : ℕ
  pub voters : List ℕ
  pub members : AreNodes nodes voters
  pub majority : majority_of nodes ≤ length voters
  pub voted : (a : ℕ) → Has a voters → HasVoted sent a i ballot v

-- the order of a world: the longest list whose ith action is decided at i
pub record IsOrder (nodes : ℕ) (sent : List Message) (order : List Action) : Type 0 where
  pub decided : (i : ℕ) (v : Action) → slice_get order i ≡ Some v → IsDecided nodes sent (suc i) v
  pub longest : (v : Action) → ¬ IsDecided nodes sent (suc (length order)) v
