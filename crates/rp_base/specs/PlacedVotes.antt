-- The votes that a promise for a range reports, each with its position. Lamport, "Paxos Made
-- Simple", sections 2.2 and 3.
use Rattle.std.specs.Prelude.{ℕ, suc, ◌<◌, ◌≤◌, nat_eq, Option, option_map, List, [], ◌∷◌, All}
use Rattle.std.specs.Prelude.{filter_map, find}
use Rattle.rp_base.specs.declared.record.Vote.{Vote}
use Rattle.rp_base.specs.declared.record.Rec.{Rec}
use Rattle.rp_base.specs.declared.placed.PlacedVote.{PlacedVote}
use Rattle.rp_base.specs.Ranges.{Range, end_of, positions_of}
use Rattle.rp_base.specs.Records.{last_vote_at}
use Rattle.rp_base.specs.Right.{IsRightVote}

-- the vote placed at a position, the first of several, if one is
abbrev pub placed_at : List PlacedVote → ℕ → Option Vote
placed_at votes i =
    option_map (λ placed. placed.vote) (find (λ placed. nat_eq placed.position i) votes)

-- the last vote at a position, with the position, if there is one
abbrev pub placed_last : List Rec → ℕ → Option PlacedVote
placed_last records i =
    option_map (λ vote. record { position = i; vote = vote }) (last_vote_at records i)

-- the last votes at the positions of a range, where there is one
abbrev pub last_votes : List Rec → Range → List PlacedVote
last_votes records range = filter_map (placed_last records) (positions_of range)

-- the positions of the votes rise, from one on and below an end
abbrev pub AreRising : ℕ → ℕ → List PlacedVote → Type 0
AreRising from end [] = Unit {0}
AreRising from end (placed ∷ rest) =
    (from ≤ placed.position) × (placed.position < end) × AreRising (suc placed.position) end rest

-- Votes that a promise for a range reports: at positions of the range that rise, in ballots below
-- the promised one, and right.
pub record AreReported (range : Range) (ballot : ℕ) (votes : List PlacedVote) : Type 0 where
  pub rising : AreRising range.first (end_of range) votes
  pub below : All (λ placed. placed.vote.ballot < ballot) votes
  pub right : All (λ placed. IsRightVote placed.vote) votes
