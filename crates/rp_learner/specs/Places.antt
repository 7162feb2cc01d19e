-- What the places of a learner's window hold, as sets of votes and positions.
use Rattle.std.specs.Prelude.{ℕ, suc, ◌≡◌, ◌≤◌, ◌<◌, length, Bool, true, false, nat_eq, List, []}
use Rattle.std.specs.Prelude.{◌∷◌, ◌++◌, map, if◌then◌else◌}
use Rattle.std.specs.Int.{bit_at}
use Rattle.rp_base.specs.Sets.{SameMembers, with_member}
use Rattle.rp_base.specs.Majority.{majority_of, nodes_among}
use Rattle.rp_base.specs.Promises.{HeardVote}
use Rattle.rp_learner.specs.Casts.{CastVote, same_cast, voters_with}
use Rattle.rp_learner.specs.Place.{Place}
use Rattle.rp_learner.specs.Place.{Unheard, Heard}
use Rattle.rp_learner.specs.Place.{Settled}

-- the votes that a place holds
abbrev pub votes_in : Place → List CastVote
votes_in Unheard = []
votes_in (Heard votes) = votes
votes_in Settled = []

-- whether the place is a settled position
abbrev pub is_settled_in : Place → Bool
is_settled_in Unheard = false
is_settled_in (Heard votes) = false
is_settled_in Settled = true

-- how many of the nodes have cast the vote at the place, once this one has
abbrev pub voters_at : ℕ → Place → CastVote → ℕ
voters_at nodes place cast =
    length (nodes_among nodes (voters_with (votes_in place) cast.from cast.vote))

-- The place after this vote was noted there: a settled one stays, one where it makes a majority is
-- settled, and any other holds the vote too.
pub record NotesCast (nodes : ℕ) (before : Place) (cast : CastVote) (after : Place)
    : Type 0 where
  pub known : is_settled_in before ≡ true → after ≡ before
  pub learned : is_settled_in before ≡ false → majority_of nodes ≤ voters_at nodes before cast
      → after ≡ Settled
  pub counting : is_settled_in before ≡ false → voters_at nodes before cast < majority_of nodes
      → (is_settled_in after ≡ false)
      × SameMembers (votes_in after) (with_member same_cast (votes_in before) cast)

-- whether the bits say that the position at an offset of the window is settled
abbrev pub is_marked : ℕ → ℕ → Bool
is_marked bits offset = nat_eq (bit_at bits offset) 1

-- a place without votes, settled if the bits say so
abbrev pub opened : ℕ → ℕ → Place
opened bits offset = if is_marked bits offset then Settled else Unheard

-- the votes that the places hold, from position i on
abbrev pub heard_from : ℕ → List Place → List HeardVote
heard_from i [] = []
heard_from i (place ∷ rest) =
    map (λ c. (c.from, i, c.vote)) (votes_in place) ++ heard_from (suc i) rest

-- the position, if its place is settled
abbrev pub if_settled : ℕ → Place → List ℕ
if_settled i Unheard = []
if_settled i (Heard votes) = []
if_settled i Settled = i ∷ []

-- the positions that are settled, from position i on
abbrev pub settled_from : ℕ → List Place → List ℕ
settled_from i [] = []
settled_from i (place ∷ rest) = if_settled i place ++ settled_from (suc i) rest
