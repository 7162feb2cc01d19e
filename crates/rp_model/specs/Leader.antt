-- What a node decides to lead. Lamport, "Paxos Made Simple", sections 2.2 and 3; which position, which
-- ballot and which action of its own it takes is ours.
use Rattle.std.specs.Prelude.{ℕ, zero, suc, ◌+◌, ◌^◌, Bool, true, not, ◌&&◌, ◌||◌, max, nat_eq}
use Rattle.std.specs.Prelude.{nat_lt, nat_le, is_some, is_none, Option, Some, None, unwrap_or}
use Rattle.std.specs.Prelude.{Result, Ok, Err, List, length, map, filter, if◌then◌else◌}
use Rattle.std.specs.List.{list_any}
use Rattle.rp_base.specs.declared.fault.Fault.{Fault}
use Rattle.rp_base.specs.declared.fault.Fault.TheVariants.{BallotsSpent, LogFull}
use Rattle.rp_base.specs.declared.record.Rec.{Rec}
use Rattle.rp_base.specs.Number.{window}
use Rattle.rp_base.specs.Ballot.{number_of, greatest_with, next_ballot, round_of}
use Rattle.rp_base.specs.Records.{started_of, learned_at, first_unlearned}
use Rattle.rp_base.specs.Promises.{offer_of}
use Rattle.rp_base.specs.Ranges.{Range, positions_of}
use Rattle.rp_base.specs.Proposals.{Proposal, proposal_at}
use Rattle.rp_base.specs.Proposals.{is_in, takes_promise, with_promise, is_promised}
use Rattle.rp_base.specs.Proposals.{is_prepared, with_range, once_promised}
use Rattle.rp_base.specs.Proposals.{is_given_up}
use Rattle.rp_model.specs.Parts.{Running}
use Rattle.rp_model.specs.Parts.{Turn}
use Rattle.rp_model.specs.Says.{notes}
use Rattle.rp_model.specs.Node.{RunningNode, nodes_of, own_for}
use Rattle.rp_model.specs.declared.effect.Dropped.TheVariants.{No}
use Rattle.rp_model.specs.declared.plan.CountedPromise.{CountedPromise}
use Rattle.rp_model.specs.declared.plan.CountedRange.{CountedRange}
use Rattle.rp_model.specs.declared.plan.Plan.{Plan}
use Rattle.rp_model.specs.declared.plan.Plan.TheVariants as plans

-- no proposal runs, or one that is prepared
abbrev pub is_ready : ℕ → Option Proposal → Bool
is_ready nodes None = true
is_ready nodes (Some p) = is_prepared nodes p

-- nothing is learned at the position, and no proposal runs there but a prepared one
abbrev pub is_free_position : ℕ → List Rec → List Proposal → ℕ → Bool
is_free_position nodes records proposals i =
    is_none (learned_at records i) && is_ready nodes (proposal_at proposals i)

-- the first free position from one on, among n
abbrev pub free_from : ℕ → List Rec → List Proposal → ℕ → ℕ → ℕ
free_from nodes records proposals zero i = i
free_from nodes records proposals (suc most) i =
    if is_free_position nodes records proposals i then i
    else free_from nodes records proposals most (suc i)

-- the least free position: one of the first n is, since each record and each proposal takes one at
-- most
abbrev pub least_free : ℕ → List Rec → List Proposal → ℕ
least_free nodes records proposals =
    free_from nodes records proposals (length records + length proposals) 1

-- the position to lead in
abbrev pub chosen_position : ℕ → List Rec → Running → Option ℕ → ℕ
chosen_position nodes records running choice =
    unwrap_or choice (least_free nodes records running.proposals)

-- the position is too far above the first unlearned one
abbrev pub is_beyond : List Rec → ℕ → Bool
is_beyond records i = nat_le (first_unlearned records + window) i

-- the position is above the log, or too far above the first unlearned one
abbrev pub is_out_of_reach : ℕ → List Rec → ℕ → Bool
is_out_of_reach most records i = nat_lt most i || is_beyond records i

-- what the next ballot lies above: the greatest that the node started, and the greatest in a
-- refusal
abbrev pub starts_above : List Rec → Running → ℕ
starts_above records running = max (started_of records) (number_of running.refused)

-- the positions of a range at which nothing is learned
abbrev pub unlearned_in : List Rec → Range → List ℕ
unlearned_in records range = filter (λ i. is_none (learned_at records i)) (positions_of range)

-- a proposal begins at each unlearned position of the range in the ballot, in place of another
-- there, which is given up first
abbrev pub begun_running : List Rec → Running → Range → ℕ → Running
begun_running records running range b =
    record running { proposals = with_range running.proposals b (unlearned_in records range) }

module _ {S : Type 0} (node : RunningNode S) where
  -- the next ballot of the node
  abbrev pub ballot_of : ℕ
  ballot_of = next_ballot node.me (starts_above node.records node.running)

  -- no ballot is left to the node
  abbrev pub is_exhausted : Bool
  is_exhausted = nat_le (2 ^ 32) (round_of ballot_of)

  -- a proposal begins at the position, if a ballot is left
  abbrev pub begins_if : ℕ → Result Plan Fault
  begins_if i =
      if is_exhausted then Err BallotsSpent else Ok (plans.Lead i ballot_of (own_for node i))

  -- A prepared proposal offers the action of the highest vote reported, or an action of its own if
  -- none is. Any other is given up, and one begins in its place.
  abbrev pub leads_at : ℕ → Option Proposal → Result Plan Fault
  leads_at i None = begins_if i
  leads_at i (Some p) =
      if is_prepared (nodes_of node) p
      then Ok (plans.OfferPrepared i p.ballot (offer_of (Some (own_for node i)) p.promises))
      else begins_if i

  -- Lead: if the chosen position is learned nothing happens; it has to be within reach, and a
  -- ballot has to be left unless the position is prepared
  abbrev pub on_lead : Option ℕ → Result Plan Fault
  on_lead choice =
      let i = chosen_position (nodes_of node) node.records node.running choice in
      if is_some (learned_at node.records i) then Ok (plans.Pass No)
      else if is_out_of_reach node.setting.config.max_positions node.records i then Err LogFull
      else leads_at i (proposal_at node.running.proposals i)

  -- LeadRange: each position has to be within reach; if all are learned nothing happens; and a
  -- ballot has to be left
  abbrev pub leads_range : Range → Result Plan Fault
  leads_range range =
      let most = node.setting.config.max_positions in
      if list_any (is_out_of_reach most node.records) (positions_of range) then Err LogFull
      else if nat_eq (length (unlearned_in node.records range)) 0 then Ok (plans.Pass No)
      else if is_exhausted then Err BallotsSpent
      else Ok (plans.LeadRange range ballot_of)

  -- the same, if n positions from the first one make a range
  abbrev pub on_lead_range : Result Range Fault → Result Plan Fault
  on_lead_range (Ok range) = leads_range range
  on_lead_range (Err fault) = Err fault

-- ---- promises and refusals

-- PromiseRange: a node promised for a range, and reported its last votes there; noted at each
-- proposal that takes it
abbrev pub on_promise_range : ℕ → Running → CountedRange → Turn
on_promise_range nodes running p =
    notes (record running
    { proposals = map (once_promised nodes p.from p.range p.ballot p.votes) running.proposals })

-- a promise that counts: if it makes a majority the action is offered to all, else it is noted
abbrev pub counts_promise : ℕ → CountedPromise → Proposal → Plan
counts_promise nodes promise p =
    let after = with_promise p (promise.from, promise.last) in
    if is_promised nodes after then plans.Offer promise (offer_of p.own after.promises)
    else plans.CountPromise promise

-- a promise to the proposal that runs at its position, if one does
abbrev pub on_promise_to : ℕ → CountedPromise → Option Proposal → Plan
on_promise_to nodes promise None = plans.Pass No
on_promise_to nodes promise (Some p) =
    if takes_promise promise.ballot p then counts_promise nodes promise p else plans.Pass No

-- Promise: a node promised, and reported its last vote
abbrev pub on_promise : {S : Type 0} → RunningNode S → CountedPromise → Plan
on_promise node promise =
    on_promise_to (nodes_of node) promise
    (proposal_at node.running.proposals promise.position)

-- Nack: a refusal of the proposal that runs at the position, in its ballot, ends it and each other
-- of the ballot that gathers promises, and the bound counts for the next ballot
abbrev pub refused_running : ℕ → Running → ℕ → ℕ → ℕ → Running
refused_running nodes running i b bound =
    if is_in b (proposal_at running.proposals i)
    then record running {
      proposals = filter (λ p. not (is_given_up nodes i b p)) running.proposals;
      refused = greatest_with running.refused bound;
    }
    else running

abbrev pub on_nack : ℕ → Running → ℕ → ℕ → ℕ → Turn
on_nack nodes running i b bound = notes (refused_running nodes running i b bound)
