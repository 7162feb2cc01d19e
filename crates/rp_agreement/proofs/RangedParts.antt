-- What is in range of a node's records and proposals.
use Rattle.std.proofs.Common.{◌≡◌, ℕ, ◌<◌, max, Bool, true, false, if◌then◌else◌, Option, Some, None, List, [], ◌∷◌, ◌⊎◌, inl, inr, refl, sym, ap, subst, arith}
use Rattle.std.specs.Prelude.{nat_eq, IfSome, unwrap_or, filter}
use Rattle.std.proofs.lemmas.Bool.{cases_Bool, cond-true, cond-false}
use Rattle.rp_base.specs.declared.action.Action.{Action}
use Rattle.rp_base.specs.declared.action.Action.TheVariants.{Noop}
use Rattle.rp_base.specs.declared.proposal.Phase.TheVariants.{Offering}
use Rattle.rp_base.specs.declared.record.Vote.{Vote}
use Rattle.rp_base.specs.declared.record.Rec.{Rec}
use Rattle.rp_base.specs.declared.record.Rec.TheVariants.{Started, Promised, Voted, Learned, PromisedRange}
use Rattle.rp_base.specs.Action.{IsRight}
use Rattle.rp_base.specs.Ballot.{IsBallot}
use Rattle.rp_base.specs.Promises.{Promise, same_promise, action_or, highest_vote, offer_of}
use Rattle.rp_base.specs.Proposals.{Proposal, with_proposal, without_proposal, with_promise, is_promised, after_promise}
use Rattle.rp_base.specs.Records.{bound_in, bound_at, learned_at, last_vote_at}
use Rattle.rp_base.specs.Right.{IsRightVote}
use Rattle.rp_base.specs.Sets.{Has}
use Rattle.rp_base.proofs.Members.{has_split, has_passing}
use Rattle.rp_base.specs.Ranges.{is_covered}
use Rattle.rp_codec.specs.Record.{IsRecord}
use Rattle.rp_model.specs.Parts.{with_record}
use Rattle.rp_agreement.specs.Ranges.{IsRangedProposal}
use Rattle.rp_agreement.proofs.Lists.{has_picked, highest_has}
use Rattle.rp_agreement.proofs.Proposing.{member_or_new}
use Rattle.rp_agreement.proofs.RecordGrowth.{last_cast, learned_has}

-- each record is one
abbrev pub AreRecords : List Rec → Type 0
AreRecords records = (rec : Rec) → Has rec records → IsRecord rec

pub written_ranged : (records : List Rec) (written : Option Rec) → AreRecords records → IfSome written IsRecord → AreRecords (with_record records written)
written_ranged records None all one = all
written_ranged records (Some new) all one = λ rec h. elim (has_split rec records (new ∷ []) h) [
  | inl old ↦ all rec old
  | inr here ↦ elim here [ inl same ↦ subst IsRecord (sym same) one | inr none ↦ absurd none ]
]

-- ---- bounds, votes and learned actions

-- 0, or a ballot
abbrev IsBound : ℕ → Type 0
IsBound b = (b ≡ 0) ⊎ IsBallot b

bound_if : (b : ℕ) (here : Bool) → IsBallot b → IsBound (if here then b else 0)
bound_if b true ballot = inr ballot
bound_if b false ballot = inl refl

bound_one : (i : ℕ) (rec : Rec) → IsRecord rec → IsBound (bound_in i rec)
bound_one i (Started ballot) is = inl refl
bound_one i (Promised position ballot) is = bound_if ballot (nat_eq position i) is.ranges.1
bound_one i (Voted position ballot action) is = bound_if ballot (nat_eq position i) is.ranges.1
bound_one i (Learned position action) is = inl refl
bound_one i (PromisedRange range ballot) is = bound_if ballot (is_covered range i) is.ranges.1

max_is : (a b : ℕ) → (max a b ≡ a) ⊎ (max a b ≡ b)
max_is a b = grind arith

bound_both : (a b : ℕ) → IsBound a → IsBound b → IsBound (max a b)
bound_both a b left right = elim (max_is a b) [ inl same ↦ subst IsBound (sym same) left | inr same ↦ subst IsBound (sym same) right ]

bound_any : (records : List Rec) (i : ℕ) → AreRecords records → IsBound (bound_at records i)
bound_any [] i all = inl refl
bound_any (rec ∷ rest) i all =
    bound_both (bound_in i rec) (bound_at rest i) (bound_one i rec (all rec (inl refl))) (bound_any rest i (λ other h. all other (inr h)))

-- a bound above a number is a ballot
pub bound_ballot : (records : List Rec) (i b : ℕ) → AreRecords records → b < bound_at records i → IsBallot (bound_at records i)
bound_ballot records i b all above = elim (bound_any records i all) [ inl none ↦ absurd (omega (arith, none, above)) | inr ballot ↦ ballot ]

-- a last vote is one that was cast
pub last_ranged : (records : List Rec) (i : ℕ) (vote : Vote) → AreRecords records → last_vote_at records i ≡ Some vote → IsBallot vote.ballot × IsRight vote.action
last_ranged records i vote all is = let rec = all _ (last_cast records i vote is) in (rec.ranges.1, rec.right)

pub learned_ranged : (records : List Rec) (i : ℕ) (v : Action) → AreRecords records → learned_at records i ≡ Some v → IsRight v
learned_ranged records i v all is = (all _ (learned_has records i v is)).right

-- ---- proposals

-- each proposal is in range
abbrev pub AreProposals : List Proposal → Type 0
AreProposals proposals = (p : Proposal) → Has p proposals → IsRangedProposal p

pub with_or_old : (p q : Proposal) (proposals : List Proposal) → Has p (with_proposal proposals q) → Has p proposals ⊎ (p ≡ q)
with_or_old p q [] h = elim h [ inl same ↦ inr same | inr none ↦ inl none ]
with_or_old p q (first ∷ rest) h =
    elim (cases_Bool (nat_eq first.position q.position)) [
      | inl here ↦
          elim (subst (λ (list : List Proposal). Has p list) (cond-true (nat_eq first.position q.position) (q ∷ rest) (first ∷ with_proposal rest q) here) h) [
            | inl same ↦ inr same
            | inr later ↦ inl (inr later)
          ]
      | inr elsewhere ↦
          elim (subst (λ (list : List Proposal). Has p list) (cond-false (nat_eq first.position q.position) (q ∷ rest) (first ∷ with_proposal rest q) elsewhere) h) [
            | inl same ↦ inl (inl same)
            | inr later ↦ elim (with_or_old p q rest later) [ inl old ↦ inl (inr old) | inr new ↦ inr new ]
          ]
    ]

pub with_ranged : (proposals : List Proposal) (q : Proposal) → AreProposals proposals → IsRangedProposal q → AreProposals (with_proposal proposals q)
with_ranged proposals q all one p h = elim (with_or_old p q proposals h) [ inl old ↦ all p old | inr new ↦ subst IsRangedProposal (sym new) one ]

pub without_ranged : (proposals : List Proposal) (i : ℕ) → AreProposals proposals → AreProposals (without_proposal proposals i)
without_ranged proposals i all p h = all p (has_passing _ p proposals h).0

pub passing_ranged : (proposals : List Proposal) (test : Proposal → Bool) → AreProposals proposals → AreProposals (filter test proposals)
passing_ranged proposals test all p h = all p (has_passing test p proposals h).0

pub promise_ranged : (p : Proposal) (from : ℕ) (last : Option Vote) → IsRangedProposal p → IfSome last IsRightVote → IsRangedProposal (with_promise p (from, last))
promise_ranged p from last is right = record {
  position = is.position;
  ballot = is.ballot;
  own = is.own;
  reported = λ a vote h.
      let one : Promise = (a, Some vote) in
      let other : Promise = (from, last) in
      elim (member_or_new same_promise one other p.promises h) [
        | inl old ↦ is.reported a vote old
        | inr new ↦
            let reports : Some vote ≡ last = ap (λ (r : Promise). r.1) new in
            subst (λ (o : Option Vote). IfSome o IsRightVote) (sym reports) right
      ];
}

pub after_ranged : (nodes : ℕ) (p : Proposal) (promise : Promise) → IsRangedProposal (with_promise p promise) → IsRangedProposal (after_promise nodes p promise)
after_ranged nodes p promise is =
    elim (is_promised nodes (with_promise p promise)) as (λ b. IsRangedProposal (let q : Proposal = if b then record (with_promise p promise) { phase = Offering } else with_promise p promise in q)) [
      | true ↦ record { position = is.position; ballot = is.ballot; own = is.own; reported = is.reported }
      | false ↦ is
    ]

-- ---- what is offered

own_right : (own : Option Action) → IfSome own IsRight → IsRight (unwrap_or own Noop)
own_right None right = tt
own_right (Some action) right = right

offer_by : (own : Action) (vote : Option Vote) → IsRight own → ((w : Vote) → vote ≡ Some w → IsRightVote w) → IsRight (action_or own vote)
offer_by own None right votes = right
offer_by own (Some vote) right votes = votes vote refl

pub offer_ranged : (p : Proposal) → IsRangedProposal p → IsRight (offer_of p.own p.promises)
offer_ranged p is = offer_by (unwrap_or p.own Noop) (highest_vote p.promises) (own_right p.own is.own)
    (λ w found.
    let picked = has_picked (λ (r : Promise). r.1) w p.promises (highest_has w _ found) in
    is.reported picked.0.0 w (subst (λ (o : Option Vote). let r : Promise = (picked.0.0, o) in Has r p.promises) picked.2 picked.1))
