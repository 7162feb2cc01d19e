-- What a place is once a vote is noted there.
use Rattle.std.proofs.Common.{◌≡◌, ℕ, ◌<◌, ◌≤◌, false, List, [], ◌∷◌, refl, arith}
use Rattle.std.proofs.lemmas.Bool.{both_ways}
use Rattle.rp_base.specs.Majority.{majority_of}
use Rattle.rp_base.specs.Sets.{SameMembers, with_member}
use Rattle.rp_learner.specs.Casts.{CastVote, same_cast}
use Rattle.rp_learner.specs.Place.{Place}
use Rattle.rp_learner.specs.Place.{Unheard, Heard}
use Rattle.rp_learner.specs.Places.{votes_in, is_settled_in, voters_at, NotesCast}
use Rattle.rp_learner.proofs.VoteCounts.{alone}

-- a vote that makes no majority is one more
pub counts : (nodes : ℕ) (before : Place) (cast : CastVote) (after : Place) → is_settled_in before ≡ false → is_settled_in after ≡ false
    → voters_at nodes before cast < majority_of nodes → SameMembers (votes_in after) (with_member same_cast (votes_in before) cast) → NotesCast nodes before cast after
counts nodes before cast after free still few more = record {
  known = λ settled. absurd (both_ways (is_settled_in before) free settled);
  learned = λ _ enough. absurd (omega (arith, few, enough));
  counting = λ _ _. (still, more);
}

-- the first vote makes none where there are 3 nodes
pub first_counts : (nodes : ℕ) (cast : CastVote) (votes : List CastVote) → 3 ≤ nodes → SameMembers votes (cast ∷ []) → NotesCast nodes Unheard cast (Heard votes)
first_counts nodes cast votes many one = counts nodes Unheard cast (Heard votes) refl refl (omega (arith, alone nodes cast.from, many)) one
