-- What an acceptor answers, by its records. Lamport, "Paxos Made Simple", section 2.2, phases 1b
-- and 2b. That a lower ballot is answered by the bound, an equal one by nothing, and a vote that
-- was cast by the same again, is ours.
use Rattle.std.specs.Prelude.{ℕ, nat_eq, nat_lt, Option, Some, None, Bool, List, find}
use Rattle.std.specs.Prelude.{if◌then◌else◌}
use Rattle.std.specs.List.{list_all}
use Rattle.rp_base.specs.declared.action.Action.{Action}
use Rattle.rp_base.specs.declared.record.Vote.{Vote}
use Rattle.rp_base.specs.declared.record.Rec.{Rec}
use Rattle.rp_base.specs.declared.record.Rec.TheVariants.{Promised, Voted, PromisedRange}
use Rattle.rp_base.specs.Ranges.{Range, positions_of}
use Rattle.rp_base.specs.Action.{same_action}
use Rattle.rp_base.specs.Records.{bound_at, last_vote_at}
use Rattle.rp_base.specs.declared.voting.PrepareAnswer.{PrepareAnswer}
use Rattle.rp_base.specs.declared.voting.PrepareAnswer.TheVariants as prepares
use Rattle.rp_base.specs.PlacedVotes.{last_votes}
use Rattle.rp_base.specs.declared.voting.RangeAnswer.{RangeAnswer}
use Rattle.rp_base.specs.declared.voting.RangeAnswer.TheVariants as range_prepares
use Rattle.rp_base.specs.declared.voting.AcceptAnswer.{AcceptAnswer}
use Rattle.rp_base.specs.declared.voting.AcceptAnswer.TheVariants as accepts

-- Prepare: above the bound a promise with the last vote; below it the bound; at it nothing
abbrev pub prepare_answer : List Rec → ℕ → ℕ → PrepareAnswer
prepare_answer records i b =
    if nat_lt (bound_at records i) b then prepares.Promise (last_vote_at records i) (Promised i b)
    else if nat_lt b (bound_at records i) then prepares.Nack (bound_at records i)
    else prepares.Silent

-- the ballot lies above the bound at each position of a range
abbrev pub is_above_bounds : List Rec → Range → ℕ → Bool
is_above_bounds records range b = list_all (λ i. nat_lt (bound_at records i) b) (positions_of range)

-- the least position of a range whose bound lies above the ballot, if one does
abbrev pub refusing_position : List Rec → Range → ℕ → Option ℕ
refusing_position records range b = find (λ i. nat_lt b (bound_at records i)) (positions_of range)

-- a refusal by the bound at a position, or nothing where none refuses
abbrev pub range_refusal : List Rec → Option ℕ → RangeAnswer
range_refusal records None = range_prepares.Silent
range_refusal records (Some i) = range_prepares.Nack i (bound_at records i)

-- PrepareRange: above the bound at each position a promise with the last votes; else the bound at
-- the least position where the ballot is below it; else nothing
abbrev pub range_answer : List Rec → Range → ℕ → RangeAnswer
range_answer records range b =
    if is_above_bounds records range b
    then range_prepares.Promise (last_votes records range) (PromisedRange range b)
    else range_refusal records (refusing_position records range b)

-- by the last vote: none or one in another ballot, then a vote; this one, then again; another
-- action's in this ballot, then nothing
abbrev pub vote_answer : ℕ → ℕ → Action → Option Vote → AcceptAnswer
vote_answer i b v None = accepts.Vote (Voted i b v)
vote_answer i b v (Some last) =
    if nat_eq last.ballot b
    then (if same_action last.action v then accepts.Again else accepts.Silent)
    else accepts.Vote (Voted i b v)

-- Accept: below the bound the bound; else by the last vote, so that no ballot gets two
abbrev pub accept_answer : List Rec → ℕ → ℕ → Action → AcceptAnswer
accept_answer records i b v =
    if nat_lt b (bound_at records i) then accepts.Nack (bound_at records i)
    else vote_answer i b v (last_vote_at records i)
