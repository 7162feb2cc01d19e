-- Proposals that run at a node, one for each position. Lamport, "Paxos Made Simple", section 2.2: a
-- proposer asks for promises in its ballot, and with a majority of them offers one action; section
-- 3: one proposal for each position of the log.
use Rattle.std.specs.Prelude.{ℕ, Bool, true, false, not, ◌&&◌, ◌||◌, nat_eq, Option, Some, None}
use Rattle.std.specs.Prelude.{List, [], ◌∷◌, filter, find, if◌then◌else◌}
use Rattle.rp_base.specs.declared.action.Action.{Action}
use Rattle.rp_base.specs.declared.proposal.Phase.{Phase}
use Rattle.rp_base.specs.declared.proposal.Phase.TheVariants.{Preparing, Offering}
use Rattle.rp_base.specs.Sets.{with_member}
use Rattle.rp_base.specs.Majority.{is_majority}
use Rattle.rp_base.specs.Promises.{Promise, same_promise, promisers_of, highest_vote}
use Rattle.rp_base.specs.Ranges.{Range, is_covered}
use Rattle.rp_base.specs.PlacedVotes.{placed_at}
use Rattle.rp_base.specs.declared.placed.PlacedVote.{PlacedVote}
use Rattle.rp_base.specs.declared.record.Vote.{Vote}

-- A proposal: where it runs, in which ballot, what it offers where no promise reports a vote
-- (nothing yet where it has no action of its own), whether it began with a range, its phase, and
-- the set of the promises that came.
pub record Proposal : Type 0 where
  pub position : ℕ
  pub ballot : ℕ
  pub own : Option Action
  pub ranged : Bool
  pub phase : Phase
  pub promises : List Promise

-- a proposal that begins: it waits for promises, and none came
abbrev pub new_proposal : ℕ → ℕ → Option Action → Proposal
new_proposal i b own =
    record { position = i; ballot = b; own = own; ranged = false; phase = Preparing; promises = [] }

-- a proposal that begins with a range: it has no action of its own yet
abbrev pub range_proposal : ℕ → ℕ → Proposal
range_proposal b i =
    record { position = i; ballot = b; own = None; ranged = true; phase = Preparing; promises = [] }

-- ---- the proposals that run, one for each position

-- the proposal that runs at a position, if one does
abbrev pub proposal_at : List Proposal → ℕ → Option Proposal
proposal_at proposals i = find (λ p. nat_eq p.position i) proposals

-- the proposals at other positions
abbrev pub without_proposal : List Proposal → ℕ → List Proposal
without_proposal proposals i = filter (λ p. not (nat_eq p.position i)) proposals

-- the proposals, this one in place of the one at its position, or after them where none runs there
abbrev pub with_proposal : List Proposal → Proposal → List Proposal
with_proposal [] p = p ∷ []
with_proposal (q ∷ rest) p =
    if nat_eq q.position p.position then p ∷ rest else q ∷ with_proposal rest p

-- a proposal runs in the ballot
abbrev pub is_in : ℕ → Option Proposal → Bool
is_in b None = false
is_in b (Some p) = nat_eq p.ballot b

-- ---- promises

-- it waits for promises
abbrev pub is_preparing : Phase → Bool
is_preparing Preparing = true
is_preparing Offering = false

-- a promise for its position in this ballot counts for the proposal: it is the proposal's, which
-- waits for promises and did not begin with a range
abbrev pub takes_promise : ℕ → Proposal → Bool
takes_promise b p = nat_eq p.ballot b && (is_preparing p.phase && not p.ranged)

-- the proposal with one more promise, which counts once
abbrev pub with_promise : Proposal → Promise → Proposal
with_promise p promise = record p { promises = with_member same_promise p.promises promise }

-- a majority promised
abbrev pub is_promised : ℕ → Proposal → Bool
is_promised nodes p = is_majority nodes (promisers_of p.promises)

-- the proposal after a promise that counts: with a majority its second phase begins
abbrev pub after_promise : ℕ → Proposal → Promise → Proposal
after_promise nodes p promise =
    if is_promised nodes (with_promise p promise)
    then record (with_promise p promise) { phase = Offering }
    else with_promise p promise

-- ---- proposals that began with a range

-- it waits for promises though a majority promised: it is prepared
abbrev pub is_prepared : ℕ → Proposal → Bool
is_prepared nodes p = is_preparing p.phase && is_promised nodes p

-- it waits for promises, and no majority promised yet
abbrev pub is_gathering : ℕ → Proposal → Bool
is_gathering nodes p = is_preparing p.phase && not (is_promised nodes p)

-- a promise for a range in this ballot counts for the proposal, which began with a range and
-- gathers promises
abbrev pub takes_range_promise : ℕ → ℕ → Proposal → Bool
takes_range_promise nodes b p = nat_eq p.ballot b && (p.ranged && is_gathering nodes p)

-- the proposals, with one that begins at each of these positions in the ballot
abbrev pub with_range : List Proposal → ℕ → List ℕ → List Proposal
with_range proposals b [] = proposals
with_range proposals b (i ∷ rest) = with_range (with_proposal proposals (range_proposal b i)) b rest

-- a proposal once a promise for a range is noted, which counts at a position of the range
abbrev pub once_promised : ℕ → ℕ → Range → ℕ → List PlacedVote → Proposal → Proposal
once_promised nodes from range b votes p =
    if is_covered range p.position && takes_range_promise nodes b p
    then with_promise p (from, placed_at votes p.position)
    else p

-- an action, where no vote is reported
abbrev pub own_unless : Action → Option Vote → Option Action
own_unless own None = Some own
own_unless own (Some vote) = None

-- a prepared proposal that offers: its own action is this one only where no promise reports a vote
abbrev pub as_offered : Action → Proposal → Proposal
as_offered own p = record p { own = own_unless own (highest_vote p.promises); phase = Offering }

-- a refusal at a position in a ballot ends the proposal there, and each other of the ballot that
-- gathers promises
abbrev pub is_given_up : ℕ → ℕ → ℕ → Proposal → Bool
is_given_up nodes i b p = nat_eq p.position i || (nat_eq p.ballot b && is_gathering nodes p)
