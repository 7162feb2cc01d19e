-- A prepared proposal that offers.
use Rattle.std.proofs.Common.{◌≡◌, ℕ, Bool, true, false, cond, Option, Some, None, List, refl, sym, ap, subst, ◌∙◌}
use Rattle.std.specs.Prelude.{Ok, IfSome, option_map, unwrap_or}
use Rattle.std.specs.List.{AllByRecursion}
use Rattle.rp_base.specs.declared.action.Action.{Action}
use Rattle.rp_base.specs.declared.record.Vote.{Vote}
use Rattle.rp_base.specs.Action.{IsRight}
use Rattle.rp_base.specs.Right.{IsRightVote}
use Rattle.rp_base.specs.Promises.{action_or, highest_vote, offer_of}
use Rattle.rp_base.specs.Proposals.{Proposal, proposal_at, is_prepared}
use Rattle.rp_model.specs.Leader.{begins_if, leads_at}
use Rattle.rp_model.specs.Node.{RunningNode, nodes_of, own_for}
use Rattle.rp_model.specs.declared.plan.Plan.TheVariants as plans
use Rattle.rp_proposer.specs.Proposing.{prepared_by}
use Rattle.rp_server.specs.Invariant.{IsRightProposal}
use Rattle.rp_server.proofs.Promising.{highest_right, all_found}

-- the action of a vote, if there is one
abbrev pub reported_of : Option Vote → Option Action
reported_of o = option_map (λ vote. vote.action) o

-- what a proposer answers where a prepared proposal runs: its ballot, and the action reported
abbrev pub answer : ℕ → Option Action → Option (ℕ × Option Action)
answer b reported = Some (b, reported)

abbrev pub answer_if : Proposal → Bool → Option (ℕ × Option Action)
answer_if p t = cond t (answer p.ballot (reported_of (highest_vote p.promises))) None

same_ballot : (b c : ℕ) (r s : Option Action) → answer b r ≡ answer c s → b ≡ c
same_ballot b c r s e = ap (λ (o : Option (ℕ × Option Action)). let found : ℕ × Option Action = unwrap_or o (b, r) in found.0) e

same_reported : (b c : ℕ) (r s : Option Action) → answer b r ≡ answer c s → r ≡ s
same_reported b c r s e = ap (λ (o : Option (ℕ × Option Action)). let found : ℕ × Option Action = unwrap_or o (b, r) in found.1) e

-- ---- what is offered

offer_same : (own : Action) (o : Option Vote) → unwrap_or (reported_of o) own ≡ action_or own o
offer_same own None = refl
offer_same own (Some vote) = refl

module _ {S : Type 0} (node : RunningNode S) (i b : ℕ) (reported : Option Action) where
  -- to lead at a prepared position is to offer there
  leads_prepared : (o : Option Proposal) → prepared_by (nodes_of node) o ≡ answer b reported → Ok (plans.OfferPrepared i b (unwrap_or reported (own_for node i))) ≡ leads_at node i o
  leads_prepared None found = absurd cc
  leads_prepared (Some p) found = by (is_prepared (nodes_of node) p) found
    where
      by : (t : Bool) → answer_if p t ≡ answer b reported
          → Ok (plans.OfferPrepared i b (unwrap_or reported (own_for node i))) ≡ cond t (Ok (plans.OfferPrepared i p.ballot (offer_of (Some (own_for node i)) p.promises))) (begins_if node i)
      by true is =
          let vote = highest_vote p.promises in
          let own = own_for node i in
          let ballot : p.ballot ≡ b = same_ballot p.ballot b (reported_of vote) reported is in
          let value : unwrap_or reported own ≡ action_or own vote =
          ap (λ (r : Option Action). unwrap_or r own) (sym (same_reported p.ballot b (reported_of vote) reported is)) ∙ offer_same own vote in
          λ n. Ok (plans.OfferPrepared i (sym ballot n) (value n))
      by false is = absurd cc

  -- the same, by the action that is offered
  pub leads_by : (v : Action) (o : Option Proposal) → prepared_by (nodes_of node) o ≡ answer b reported → v ≡ unwrap_or reported (own_for node i) → Ok (plans.OfferPrepared i b v) ≡ leads_at node i o
  leads_by v o found is = ap (λ (a : Action). Ok (plans.OfferPrepared i b a)) is ∙ leads_prepared o found

-- ---- what a proposer reports is right

vote_right : (o : Option Vote) → IfSome o IsRightVote → IfSome (reported_of o) IsRight
vote_right None right = tt
vote_right (Some vote) right = right

reported_right : (nodes b : ℕ) (reported : Option Action) (o : Option Proposal) → IfSome o IsRightProposal → prepared_by nodes o ≡ answer b reported → IfSome reported IsRight
reported_right nodes b reported None right found = absurd cc
reported_right nodes b reported (Some p) right found = by (is_prepared nodes p) found
  where
    by : (t : Bool) → answer_if p t ≡ answer b reported → IfSome reported IsRight
    by true is =
        subst (λ (r : Option Action). IfSome r IsRight) (same_reported p.ballot b (reported_of (highest_vote p.promises)) reported is)
        (vote_right (highest_vote p.promises) (highest_right p.promises right.promises))
    by false is = absurd cc

prepared_right : (nodes i b : ℕ) (reported : Option Action) (ps : List Proposal) → AllByRecursion IsRightProposal ps → prepared_by nodes (proposal_at ps i) ≡ answer b reported → IfSome reported IsRight
prepared_right nodes i b reported ps all = reported_right nodes b reported (proposal_at ps i) (all_found ps i all)

-- the same, of all that a proposer answers
pub found_right : (nodes i : ℕ) (ps : List Proposal) (o : Option (ℕ × Option Action)) → AllByRecursion IsRightProposal ps → prepared_by nodes (proposal_at ps i) ≡ o → IfSome o (λ found. IfSome found.1 IsRight)
found_right nodes i ps None all is = tt
found_right nodes i ps (Some (b, reported)) all is = prepared_right nodes i b reported ps all is
