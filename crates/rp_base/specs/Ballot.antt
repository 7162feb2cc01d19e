-- Ballots. Lamport, "Paxos Made Simple", section 2.2: proposers draw their numbers from disjoint
-- sets. The form of the number is ours.
use Rattle.std.specs.Prelude.{◌≡◌, ℕ, ◌+◌, ◌-◌, ◌*◌, ◌/◌, ◌%◌, ◌<◌, ◌≤◌, ◌^◌, max, Option, Some}
use Rattle.std.specs.Prelude.{unwrap_or}
use Rattle.rp_base.specs.Number.{IsNode}

-- the ballot of a round and the node that owns it
abbrev pub ballot_of : ℕ → ℕ → ℕ
ballot_of round node = 8 * round + node

-- the round of a ballot
abbrev pub round_of : ℕ → ℕ
round_of b = b / 8

-- the owner of a ballot, the one node that may lead in it
abbrev pub owner_of : ℕ → ℕ
owner_of b = b % 8

-- a ballot has a round from 1 to 2^32 - 1 and a node as its owner
pub record IsBallot (b : ℕ) : Type 0 where
  pub round : (1 ≤ round_of b) × (round_of b < 2 ^ 32)
  pub owner : IsNode (owner_of b)

-- a ballot as a number, 0 where there is none
abbrev pub number_of : Option ℕ → ℕ
number_of b = unwrap_or b 0

-- the greatest ballot so far, if there is one, with another
abbrev pub greatest_with : Option ℕ → ℕ → Option ℕ
greatest_with ballot other = Some (max (number_of ballot) other)

-- a ballot of this node above a number
pub record IsAbove (node floor b : ℕ) : Type 0 where
  pub ballot : IsBallot b
  pub owner : owner_of b ≡ node
  pub above : floor < b

-- the least of them
pub record IsNext (node floor b : ℕ) : Type 0 where
  pub candidate : IsAbove node floor b
  pub least : (other : ℕ) → IsAbove node floor other → b ≤ other

-- the least number of this node's form above a number, with a round from 1
abbrev pub next_ballot : ℕ → ℕ → ℕ
next_ballot node floor = ballot_of (max 1 ((floor + 8 - node) / 8)) node
