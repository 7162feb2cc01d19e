-- Votes that were heard make a decision where they make a majority, and only there.
use Rattle.std.proofs.Common.{◌≡◌, ℕ, ◌≤◌, Bool, true, List, [], ◌∷◌, length, map, inl, inr, refl, sym, subst, arith}
use Rattle.std.specs.Prelude.{nat_eq, ◌&&◌, filter}
use Rattle.std.proofs.lemmas.Bool.{and_parts, and_from, eqb-true, eq-eqb, leb-true, le-leb}
use Rattle.std.proofs.lemmas.Bool.Decides.{Decides-eqb}
use Rattle.rp_base.specs.Number.{in_range}
use Rattle.rp_base.specs.declared.action.Action.{Action}
use Rattle.rp_base.specs.declared.record.Vote.{Vote}
use Rattle.rp_base.specs.Sets.{Has}
use Rattle.rp_base.specs.Majority.{majority_of, nodes_among}
use Rattle.rp_base.specs.Promises.{HeardVote, same_vote, voters_of, makes_majority}
use Rattle.rp_base.proofs.Members.{has_passing, passes, has_mapped, mapped_has, has_members, member_stays, set_members, set_passing, set_fits}
use Rattle.rp_base.proofs.Sameness.{vote_equal, vote_same}
use Rattle.rp_codec.specs.Message.{Message}
use Rattle.rp_model.specs.Facts.{HasVoted, IsDecided}

abbrev is_vote : ℕ → Vote → HeardVote → Bool
is_vote i vote h = nat_eq h.1 i && same_vote h.2 vote

-- those who are counted cast the vote
voter_cast : (i : ℕ) (vote : Vote) (heard : List HeardVote) (a : ℕ) → Has a (voters_of i vote heard) → Has (a, i, vote) heard
voter_cast i vote heard a voter =
    elim (has_members nat_eq Decides-eqb a [] (map (λ (h : HeardVote). h.0) (filter (is_vote i vote) heard)) voter) [
      | inl none ↦ absurd none
      | inr counted ↦
          let from = mapped_has (λ (h : HeardVote). h.0) a (filter (is_vote i vote) heard) counted in
          let passed = has_passing (is_vote i vote) from.0 heard from.1 in
          let test = and_parts _ _ passed.1 in
          let position : from.0.1 ≡ i = eqb-true from.0.1 i test.0 in
          let same : from.0.2 ≡ vote = vote_equal from.0.2 vote test.1 in
          let node : from.0.0 ≡ a = sym from.2 in
          subst (λ (h : HeardVote). Has h heard) (λ k. (node k, position k, same k)) passed.0
    ]

-- and those who cast it are counted
cast_voter : (i : ℕ) (vote : Vote) (heard : List HeardVote) (a : ℕ) → Has (a, i, vote) heard → Has a (voters_of i vote heard)
cast_voter i vote heard a cast =
    let h : HeardVote = (a, i, vote) in
    let passed = passes (is_vote i vote) h heard cast (and_from _ _ (eq-eqb i i refl) (vote_same vote)) in
    member_stays nat_eq Decides-eqb a [] (map (λ (k : HeardVote). k.0) (filter (is_vote i vote) heard)) (has_mapped (λ (k : HeardVote). k.0) h (filter (is_vote i vote) heard) passed)

-- Votes that were sent, and make a majority, decide.
pub majority_decides : (nodes : ℕ) (sent : List Message) (i : ℕ) (vote : Vote) (heard : List HeardVote) → ((a : ℕ) → Has (a, i, vote) heard → HasVoted sent a i vote.ballot vote.action)
    → makes_majority nodes i vote heard ≡ true → IsDecided nodes sent i vote.action
majority_decides nodes sent i vote heard stated most =
    let voters = voters_of i vote heard in
    let among = λ (a : ℕ) (h : Has a (nodes_among nodes voters)). has_passing (in_range 1 nodes) a voters h in
    record {
      ballot = vote.ballot;
      voters = nodes_among nodes voters;
      members = record {
        members = λ a h. let test = and_parts _ _ (among a h).1 in (leb-true 1 a test.0, leb-true a nodes test.1);
        distinct = set_passing (in_range 1 nodes) voters (set_members nat_eq Decides-eqb [] (map (λ h. h.0) (filter (is_vote i vote) heard)) tt);
      };
      majority = leb-true (majority_of nodes) (length (nodes_among nodes voters)) most;
      voted = λ a h. stated a (voter_cast i vote heard a (among a h).0);
    }

-- What is decided has a majority among all the votes that were sent.
pub decided_counts : (nodes : ℕ) (sent : List Message) (i : ℕ) (v : Action) (decided : IsDecided nodes sent i v) (heard : List HeardVote)
    → ((a : ℕ) (w : Vote) → HasVoted sent a i w.ballot w.action → Has (a, i, w) heard) → makes_majority nodes i (record { ballot = decided.ballot; action = v }) heard ≡ true
decided_counts nodes sent i v decided heard hears =
    let vote : Vote = record { ballot = decided.ballot; action = v } in
    let voters = voters_of i vote heard in
    let inside = λ (a : ℕ) (voter : Has a decided.voters).
    let range = decided.members.members a voter in
    passes (in_range 1 nodes) a voters (cast_voter i vote heard a (hears a vote (decided.voted a voter))) (and_from _ _ (le-leb 1 a range.0) (le-leb a nodes range.1)) in
    let enough : length decided.voters ≤ length (nodes_among nodes voters) = set_fits decided.voters (nodes_among nodes voters) decided.members.distinct inside in
    le-leb (majority_of nodes) (length (nodes_among nodes voters)) (omega (arith, enough, decided.majority))

-- Somebody voted for what is decided.
pub decided_voter : (nodes : ℕ) (sent : List Message) (i : ℕ) (v : Action) (decided : IsDecided nodes sent i v) → (a : ℕ) × HasVoted sent a i decided.ballot v
decided_voter nodes sent i v decided = by decided.voters decided.majority decided.voted
  where
    by : (voters : List ℕ) → majority_of nodes ≤ length voters → ((a : ℕ) → Has a voters → HasVoted sent a i decided.ballot v) → (a : ℕ) × HasVoted sent a i decided.ballot v
    by [] most voted = absurd (omega (arith, most))
    by (a ∷ rest) most voted = (a, voted a (inl refl))
