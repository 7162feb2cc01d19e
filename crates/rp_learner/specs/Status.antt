-- What a learner knows, and what a vote makes of it. Lamport, "Paxos Made Simple", section 2.3: a
-- value is learned once a majority of acceptors accepted it; here, all of them in one ballot, which
-- is stricter.
use Rattle.std.specs.Prelude.{◌≡◌, ◌≤◌, ◌<◌, ◌+◌, ◌-◌, ◌||◌, ℕ, Bool, nat_eq, nat_le, nat_lt, List}
use Rattle.std.specs.Prelude.{[], filter, if◌then◌else◌}
use Rattle.std.specs.List.{list_any}
use Rattle.rp_base.specs.declared.action.Action.{Action}
use Rattle.rp_base.specs.declared.record.Vote.{Vote}
use Rattle.rp_base.specs.Sets.{Has, SameMembers, with_member}
use Rattle.rp_base.specs.Promises.{HeardVote, same_heard, makes_majority, heard_elsewhere}
use Rattle.rp_learner.specs.Learning.{Learning}
use Rattle.rp_base.specs.Number.{window}
use Rattle.rp_base.specs.Majority.{majority_of}
use Rattle.rp_learner.specs.Casts.{CastVote}
use Rattle.rp_learner.specs.Place.{Place}
use Rattle.rp_learner.specs.Places.{is_marked, is_settled_in, voters_at}
use Rattle.rp_learner.specs.declared.learner.VoteStatus.{VoteStatus}
use Rattle.rp_learner.specs.declared.learner.VoteStatus.TheVariants.{Counting, Learned, Known}
use Rattle.rp_learner.specs.declared.learner.VoteStatus.TheVariants.{Beyond}
use Rattle.rp_learner.specs.declared.learner.Decision.{Decision}
use Rattle.rp_learner.specs.declared.learner.Decision.TheVariants as decisions

-- the two hold the same, as sets
pub record SameLearning (l m : Learning) : Type 0 where
  pub nodes : l.nodes ≡ m.nodes
  pub positions : l.max_positions ≡ m.max_positions
  pub first : l.first ≡ m.first
  pub heard : SameMembers l.heard m.heard
  pub settled : SameMembers l.settled m.settled

-- the vote of a ballot for an action
abbrev pub vote_for : ℕ → Action → Vote
vote_for ballot action = record { ballot = ballot; action = action }

-- whether the position is above the window
abbrev pub is_beyond : Learning → ℕ → Bool
is_beyond l i = nat_le (l.first + window) i

-- whether the position is settled: all below the window are
abbrev pub is_settled : Learning → ℕ → Bool
is_settled l i = nat_lt i l.first || list_any (nat_eq i) l.settled

-- the votes heard with one more, unless it is there
abbrev pub heard_with : Learning → ℕ → ℕ → Vote → List HeardVote
heard_with l from i vote = with_member same_heard l.heard (from, i, vote)

-- What holds at a position once this vote is counted: beyond above the window, known where it is
-- settled, learned where those who cast this very vote there are a majority, else the votes are
-- still counted.
abbrev pub status_with : Learning → ℕ → ℕ → Vote → VoteStatus
status_with l from i vote =
    if is_beyond l i then Beyond
    else if is_settled l i then Known
    else if makes_majority l.nodes i vote (heard_with l from i vote) then Learned
    else Counting

-- the same, by what is known of a position of the window
abbrev pub place_status : ℕ → Place → CastVote → VoteStatus
place_status nodes place cast =
    if is_settled_in place then Known
    else if nat_le (majority_of nodes) (voters_at nodes place cast) then Learned
    else Counting

-- what a decision at a position is: beyond above the window, known where it is settled, else
-- learned
abbrev pub decision_at : Learning → ℕ → Decision
decision_at l i =
    if is_beyond l i then decisions.Beyond
    else if is_settled l i then decisions.Known
    else decisions.Learned

-- a position of the window settled, and the votes heard there let go
abbrev pub with_mark : Learning → ℕ → Learning
with_mark l i =
    record l { heard = heard_elsewhere l.heard i; settled = with_member nat_eq l.settled i }

-- the position settled: below the window it is, and above nothing is marked
abbrev pub with_settled : Learning → ℕ → Learning
with_settled l i = if is_beyond l i || nat_lt i l.first then l else with_mark l i

-- the learner where the vote left the position so
abbrev pub with_status : Learning → ℕ → ℕ → Vote → VoteStatus → Learning
with_status l from i vote Counting = record l { heard = heard_with l from i vote }
with_status l from i vote Learned = with_mark l i
with_status l from i vote Known = l
with_status l from i vote Beyond = l

-- The learner with this vote noted: it is heard, or its position is settled where it makes a
-- majority. At a settled position, and above the window, nothing is noted.
abbrev pub with_vote : Learning → ℕ → ℕ → Vote → Learning
with_vote l from i vote = with_status l from i vote (status_with l from i vote)

-- The vote is one more of those that are counted: it settles nothing, and was not heard before.
pub record IsOneMore (l : Learning) (from i : ℕ) (vote : Vote) : Type 0 where
  pub counting : status_with l from i vote ≡ Counting
  pub unheard : ¬ Has (let heard : HeardVote = (from, i, vote) in heard) l.heard

-- the second is the first with this vote noted, as a set
abbrev pub NotesVote : Learning → ℕ → ℕ → Vote → Learning → Type 0
NotesVote before from i vote after = SameLearning after (with_vote before from i vote)

-- the second is the first with this position settled, as a set
abbrev pub Settles : Learning → ℕ → Learning → Type 0
Settles before i after = SameLearning after (with_settled before i)

-- The second is the first with its window moved on to this position. Of the votes heard those
-- within it stay. Of its positions those that were in the window before stay settled or not, and of
-- the others those are settled whose bits say so.
pub record Advances (before : Learning) (first bits : ℕ) (after : Learning) : Type 0 where
  pub nodes : after.nodes ≡ before.nodes
  pub positions : after.max_positions ≡ before.max_positions
  pub begins : after.first ≡ first
  pub heard : SameMembers after.heard (filter (λ h. nat_le first h.1) before.heard)
  pub stays : (i : ℕ) → first ≤ i → i < before.first + window
      → is_settled after i ≡ is_settled before i
  pub opens : (i : ℕ) → first ≤ i → before.first + window ≤ i → i < first + window
      → is_settled after i ≡ is_marked bits (i - first)

-- the two are of as many nodes and positions, and of one window
abbrev pub SameSizes : Learning → Learning → Type 0
SameSizes l m = (l.nodes ≡ m.nodes) × (l.max_positions ≡ m.max_positions) × (l.first ≡ m.first)

-- a learner of n nodes and positions that heard nothing, from position 1 on
abbrev pub fresh : ℕ → ℕ → Learning
fresh nodes max_positions =
    record { nodes = nodes; max_positions = max_positions; first = 1; heard = []; settled = [] }
