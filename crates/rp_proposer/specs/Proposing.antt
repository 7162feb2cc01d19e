-- What a node knows as a proposer, and what it does with promises and refusals. Lamport, "Paxos
-- Made Simple", section 2.2; one proposal for each position as in section 3.
use Rattle.std.specs.Prelude.{ℕ, suc, ◌+◌, ◌-◌, ◌<◌, ◌≤◌, Bool, true, false, not, ◌&&◌, nat_eq, max}
use Rattle.std.specs.Prelude.{Option, Some, None, option_map, List, [], ◌∷◌, map, filter, length}
use Rattle.std.specs.Prelude.{if◌then◌else◌}
use Rattle.std.specs.Int.{bit_at}
use Rattle.std.specs.List.{list_any}
use Rattle.rp_base.specs.declared.action.Action.{Action}
use Rattle.rp_base.specs.declared.record.Rec.{Rec}
use Rattle.rp_base.specs.Action.{equal_items}
use Rattle.rp_base.specs.Sets.{Has, IsSet}
use Rattle.rp_base.specs.Ballot.{number_of, greatest_with}
use Rattle.rp_base.specs.Records.{started_of}
use Rattle.rp_base.specs.declared.placed.PlacedVote.{PlacedVote}
use Rattle.rp_base.specs.Ranges.{Range, positions_of}
use Rattle.rp_base.specs.Promises.{Promise, highest_vote, offer_of}
use Rattle.rp_base.specs.Proposals.{Proposal, new_proposal, proposal_at, without_proposal}
use Rattle.rp_base.specs.Proposals.{with_proposal, is_in, is_preparing, takes_promise, with_promise}
use Rattle.rp_base.specs.Proposals.{is_promised, after_promise, is_prepared, with_range}
use Rattle.rp_base.specs.Proposals.{once_promised, as_offered, is_given_up}
use Rattle.rp_proposer.specs.declared.proposal.Progress.{Progress}
use Rattle.rp_proposer.specs.declared.proposal.Progress.TheVariants.{Waiting, Offer, Stale}

-- What a node knows as a proposer: which node it is, of how many; the proposals that run; the
-- greatest ballot that it started, or 0; and the greatest in a refusal of a running proposal.
pub record ProposerPart : Type 0 where
  pub node : ℕ
  pub nodes : ℕ
  pub proposals : List Proposal
  pub started : ℕ
  pub refused : Option ℕ

-- the greatest ballot counted, or 0: the next one lies above it
abbrev pub greatest_counted : ProposerPart → ℕ
greatest_counted part = max part.started (number_of part.refused)

-- a proposer whose node wrote these records: no proposal runs
abbrev pub restored : ℕ → ℕ → List Rec → ProposerPart
restored node nodes records =
    record {
      node = node;
      nodes = nodes;
      proposals = [];
      started = started_of records;
      refused = None;
    }

-- how many proposals may run
abbrev pub most_running : ℕ
most_running = 64

-- fewer run at other positions than may run
abbrev pub HasRoom : List Proposal → ℕ → Type 0
HasRoom proposals i = length (without_proposal proposals i) < most_running

-- the position is one of 64 from the first on
abbrev pub IsInWindow : ℕ → ℕ → Type 0
IsInWindow first i = (first ≤ i) × (i < first + most_running)

-- the proposals run at different positions of a window
pub record AreInWindow (first : ℕ) (proposals : List Proposal) : Type 0 where
  pub different : IsSet (map (λ p. p.position) proposals)
  pub inside : (i : ℕ) → Has i (map (λ p. p.position) proposals) → IsInWindow first i

-- the item is this action, if there is one
abbrev pub is_equal_item : Action → Option Action → Bool
is_equal_item item None = false
is_equal_item item (Some own) = equal_items item own

-- the item is the proposal's own action
abbrev pub is_own : Action → Proposal → Bool
is_own item p = is_equal_item item p.own

-- the item is the own action of a proposal at another position
abbrev pub is_own_elsewhere : List Proposal → ℕ → Action → Bool
is_own_elsewhere proposals i item = list_any (is_own item) (without_proposal proposals i)

-- the index of the proposal at a position, the first of them at k
abbrev pub index_from : ℕ → ℕ → List Proposal → Option ℕ
index_from k i [] = None
index_from k i (p ∷ rest) = if nat_eq p.position i then Some k else index_from (suc k) i rest

-- the ballot of the proposal that runs at a position, if one does
abbrev pub ballot_at : List Proposal → ℕ → Option ℕ
ballot_at proposals i = option_map (λ p. p.ballot) (proposal_at proposals i)

-- a proposal begins at the position, in place of any other there, and its ballot is counted as
-- started
abbrev pub begins : ProposerPart → ℕ → ℕ → Option Action → ProposerPart
begins part i b own =
    record part {
      proposals = with_proposal part.proposals (new_proposal i b own);
      started = max part.started b;
    }

-- the positions of a range, but for those whose bit, counted from the first position, is set in a
-- mask
abbrev pub unskipped : Range → ℕ → List ℕ
unskipped range skip =
    filter (λ i. not (nat_eq (bit_at skip (i - range.first)) 1)) (positions_of range)

-- a proposal begins at each of these positions, in place of any other there, and its ballot is
-- counted as started
abbrev pub begins_range : ProposerPart → List ℕ → ℕ → ProposerPart
begins_range part positions b =
    record part { proposals = with_range part.proposals b positions; started = max part.started b }

-- a promise for its position in this ballot is for the proposal, which did not begin with a range
abbrev pub asks_in : ℕ → Proposal → Bool
asks_in b p = nat_eq p.ballot b && not p.ranged

-- what a promise in its ballot makes of a proposal: in phase 1 an offer, where it makes a majority
abbrev pub progress_of : ℕ → Proposal → Promise → Progress
progress_of nodes p promise =
    if is_preparing p.phase && is_promised nodes (with_promise p promise)
    then Offer (offer_of p.own (with_promise p promise).promises)
    else Waiting

-- what a promise for its position in a ballot makes of the proposal that runs there, if it is for
-- that
abbrev pub progress_in : ℕ → ℕ → Promise → Option Proposal → Progress
progress_in nodes b promise None = Stale
progress_in nodes b promise (Some p) = if asks_in b p then progress_of nodes p promise else Stale

-- a proposal runs, and waits for promises
abbrev pub waits_for_promises : Option Proposal → Bool
waits_for_promises None = false
waits_for_promises (Some p) = is_preparing p.phase

-- a proposal after a promise in its ballot, which counts while promises are waited for
abbrev pub noted : ℕ → Proposal → Promise → Proposal
noted nodes p promise = if is_preparing p.phase then after_promise nodes p promise else p

-- it is an offer
abbrev pub is_offer : Progress → Bool
is_offer Waiting = false
is_offer (Offer action) = true
is_offer Stale = false

-- how many offers these promises in its ballot make, each noted before the next
abbrev pub offers_made : ℕ → Proposal → List Promise → ℕ
offers_made nodes p [] = 0
offers_made nodes p (promise ∷ rest) =
    (if is_offer (progress_of nodes p promise) then 1 else 0)
    + offers_made nodes (noted nodes p promise) rest

-- a proposal once a promise in this ballot is noted, which counts if the proposal takes it
abbrev pub once_noted : ℕ → ℕ → Proposal → Promise → Proposal
once_noted nodes b p promise = if takes_promise b p then after_promise nodes p promise else p

-- a promise is noted at the proposal that runs at its position
abbrev pub notes_promise : ProposerPart → ℕ → Promise → Option Proposal → ProposerPart
notes_promise part b promise None = part
notes_promise part b promise (Some p) =
    record part { proposals = with_proposal part.proposals (once_noted part.nodes b p promise) }

-- a promise for a range is noted at each proposal of the range that takes it
abbrev pub notes_range : ProposerPart → ℕ → Range → ℕ → List PlacedVote → ProposerPart
notes_range part from range b votes =
    record part { proposals = map (once_promised part.nodes from range b votes) part.proposals }

-- the ballot of a prepared proposal, and the action of the highest vote that its promises report
abbrev pub prepared_by : ℕ → Option Proposal → Option (ℕ × Option Action)
prepared_by nodes None = None
prepared_by nodes (Some p) =
    if is_prepared nodes p
    then Some (p.ballot, option_map (λ vote. vote.action) (highest_vote p.promises)) else None

-- a proposal once it is to offer: if it is prepared its second phase begins, with this own action
-- where no promise reports a vote
abbrev pub once_offered : ℕ → Action → Proposal → Proposal
once_offered nodes own p = if is_prepared nodes p then as_offered own p else p

-- the proposal that runs at a position is to offer
abbrev pub offers : ProposerPart → Action → Option Proposal → ProposerPart
offers part own None = part
offers part own (Some p) =
    record part { proposals = with_proposal part.proposals (once_offered part.nodes own p) }

-- A refusal of the proposal that runs at the position, in its ballot: the proposal ends, and each
-- other of the ballot that gathers promises, and the bound counts.
abbrev pub notes_refusal : ProposerPart → ℕ → ℕ → ℕ → ProposerPart
notes_refusal part i b bound =
    if is_in b (proposal_at part.proposals i)
    then record part {
      proposals = filter (λ p. not (is_given_up part.nodes i b p)) part.proposals;
      refused = greatest_with part.refused bound;
    }
    else part

-- the position is settled: a proposal there ends
abbrev pub settles : ProposerPart → ℕ → ProposerPart
settles part i = record part { proposals = without_proposal part.proposals i }
