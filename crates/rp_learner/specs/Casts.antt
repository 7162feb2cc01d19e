-- The votes heard at one position, by their counts.
use Rattle.std.specs.Prelude.{ℕ, suc, ◌&&◌, Bool, Option, Some, None, nat_eq, List, [], ◌∷◌, ◌++◌}
use Rattle.std.specs.Prelude.{map, filter, if◌then◌else◌}
use Rattle.rp_base.specs.declared.record.Vote.{Vote}
use Rattle.rp_base.specs.Sets.{IsSet, with_member, with_members}
use Rattle.rp_base.specs.Promises.{same_vote}
use Rattle.rp_learner.specs.declared.vote_counts.VoteCount.{VoteCount}

-- a vote that was heard at the position, and who cast it
pub record CastVote : Type 0 where
  pub from : ℕ
  pub vote : Vote

-- the votes of a count
abbrev pub casts_in : VoteCount → List CastVote
casts_in vote_count =
    map (λ node. record { from = node; vote = vote_count.vote }) vote_count.senders

-- the votes of all counts
abbrev pub casts_of : List VoteCount → List CastVote
casts_of [] = []
casts_of (vote_count ∷ rest) = casts_in vote_count ++ casts_of rest

-- no two counts are of one vote
abbrev pub AreVoteCounts : List VoteCount → Type 0
AreVoteCounts vote_counts = IsSet (map (λ t. t.vote) vote_counts)

-- the index of the count of a vote, the first of them at k
abbrev pub index_from : ℕ → Vote → List VoteCount → Option ℕ
index_from k vote [] = None
index_from k vote (vote_count ∷ rest) =
    if same_vote vote_count.vote vote then Some k else index_from (suc k) vote rest

-- the cast votes are the same
abbrev pub same_cast : CastVote → CastVote → Bool
same_cast c d = nat_eq c.from d.from && same_vote c.vote d.vote

-- who cast a vote, each once
abbrev pub voters_in : List CastVote → Vote → List ℕ
voters_in casts vote =
    with_members nat_eq [] (map (λ c. c.from) (filter (λ c. same_vote c.vote vote) casts))

-- who cast it, with one more
abbrev pub voters_with : List CastVote → ℕ → Vote → List ℕ
voters_with casts from vote = with_member nat_eq (voters_in casts vote) from
