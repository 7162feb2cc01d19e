-- What a proposer makes of the promises, and a learner of the votes, that came. Lamport, "Paxos
-- Made Simple", section 2.2: the value of the highest-numbered proposal among the responses, or any
-- value if they report none; and section 2.3: a value is learned once a majority of acceptors
-- accepted it.
use Rattle.std.specs.Prelude.{ℕ, Bool, true, false, not, ◌&&◌, nat_eq, Option, Some, None}
use Rattle.std.specs.Prelude.{unwrap_or, List, [], map, filter, filter_map}
use Rattle.rp_base.specs.declared.action.Action.{Action}
use Rattle.rp_base.specs.declared.action.Action.TheVariants.{Noop}
use Rattle.rp_base.specs.declared.record.Vote.{Vote}
use Rattle.rp_base.specs.Action.{same_action}
use Rattle.rp_base.specs.Sets.{with_members}
use Rattle.rp_base.specs.Majority.{is_majority}
use Rattle.rp_base.specs.Records.{highest}

-- the votes are the same
abbrev pub same_vote : Vote → Vote → Bool
same_vote v w = nat_eq v.ballot w.ballot && same_action v.action w.action

-- a promise that came: who sent it, and the last vote that it reports
abbrev pub Promise : Type 0
Promise = ℕ × Option Vote

-- the reported votes are the same
abbrev pub same_last : Option Vote → Option Vote → Bool
same_last None None = true
same_last (Some v) (Some w) = same_vote v w
same_last _ _ = false

-- the promises are the same
abbrev pub same_promise : Promise → Promise → Bool
same_promise p q = nat_eq p.0 q.0 && same_last p.1 q.1

-- who sent these promises, each once
abbrev pub promisers_of : List Promise → List ℕ
promisers_of promises = with_members nat_eq [] (map (λ p. p.0) promises)

-- the vote of the greatest ballot that the promises report
abbrev pub highest_vote : List Promise → Option Vote
highest_vote promises = highest (filter_map (λ p. p.1) promises)

-- the action of a vote, or another where there is none
abbrev pub action_or : Action → Option Vote → Action
action_or own None = own
action_or own (Some vote) = vote.action

-- what a proposal offers: the action of the highest vote reported, or its own where there is none,
-- or nothing where it has none
abbrev pub offer_of : Option Action → List Promise → Action
offer_of own promises = action_or (unwrap_or own Noop) (highest_vote promises)

-- a vote that was heard: who cast it, at which position, and the vote
abbrev pub HeardVote : Type 0
HeardVote = ℕ × ℕ × Vote

-- the heard votes are the same
abbrev pub same_heard : HeardVote → HeardVote → Bool
same_heard h k = nat_eq h.0 k.0 && nat_eq h.1 k.1 && same_vote h.2 k.2

-- who cast this vote at this position, each once
abbrev pub voters_of : ℕ → Vote → List HeardVote → List ℕ
voters_of i vote heard =
    with_members nat_eq [] (map (λ h. h.0) (filter (λ h. nat_eq h.1 i && same_vote h.2 vote) heard))

-- those who cast this vote at this position are a majority of n nodes
abbrev pub makes_majority : ℕ → ℕ → Vote → List HeardVote → Bool
makes_majority n i vote heard = is_majority n (voters_of i vote heard)

-- the votes heard at other positions
abbrev pub heard_elsewhere : List HeardVote → ℕ → List HeardVote
heard_elsewhere heard i = filter (λ h. not (nat_eq h.1 i)) heard
