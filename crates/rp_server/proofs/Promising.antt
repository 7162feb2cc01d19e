-- What a promise or a refusal makes of the proposals that run.
use Rattle.std.proofs.Common.{◌≡◌, ℕ, Bool, true, false, ◌&&◌, cond, not, nat_eq, nat_lt, Option, Some, None, List, [], ◌∷◌, ◌++◌, length, map, refl, sym, ap, subst, ◌∙◌, eqb-true}
use Rattle.std.specs.Prelude.{IfSome, filter, filter_map, find, option_map, unwrap_or}
use Rattle.std.specs.List.{AllByRecursion, cons_option, list_any}
use Rattle.rp_base.specs.declared.action.Action.{Action}
use Rattle.rp_base.specs.declared.action.Action.TheVariants.{Noop}
use Rattle.rp_base.specs.declared.config.Config.{Config}
use Rattle.rp_base.specs.declared.record.Vote.{Vote}
use Rattle.rp_base.specs.declared.record.Rec.{Rec}
use Rattle.rp_base.specs.declared.proposal.Phase.TheVariants.{Offering}
use Rattle.rp_base.specs.Action.{IsRight}
use Rattle.rp_base.specs.Right.{IsRightVote}
use Rattle.rp_base.specs.Records.{higher_vote, highest}
use Rattle.rp_base.specs.Sets.{Has, IsSet}
use Rattle.rp_base.specs.declared.placed.PlacedVote.{PlacedVote}
use Rattle.rp_base.specs.PlacedVotes.{placed_at}
use Rattle.rp_base.specs.Ranges.{Range, is_covered}
use Rattle.rp_base.specs.Promises.{Promise, HeardVote, same_promise, action_or, highest_vote, offer_of}
use Rattle.rp_base.specs.Ballot.{greatest_with}
use Rattle.rp_base.specs.Proposals.{Proposal, proposal_at, with_proposal, is_in, is_preparing, takes_promise, with_promise, is_promised, is_prepared, takes_range_promise, once_promised, own_unless, as_offered, is_given_up}
use Rattle.rp_base.proofs.Members.{has_passing, has_mapped, mapped_has}
use Rattle.rp_proposer.proofs.Places.{noted_there}
use Rattle.rp_proposer.specs.Proposing.{ProposerPart, asks_in, progress_in, waits_for_promises, once_noted, notes_promise, notes_range, notes_refusal, once_offered, offers}
use Rattle.rp_proposer.specs.declared.proposal.Progress.{Progress}
use Rattle.rp_proposer.specs.declared.proposal.Progress.TheVariants.{Waiting, Offer, Stale}
use Rattle.rp_model.specs.Leader.{on_promise_to, on_promise}
use Rattle.rp_model.specs.Node.{RunningNode, nodes_of}
use Rattle.rp_model.specs.declared.effect.Dropped.TheVariants.{No}
use Rattle.rp_model.specs.declared.plan.CountedPromise.{CountedPromise}
use Rattle.rp_model.specs.declared.plan.Plan.{Plan}
use Rattle.rp_model.specs.declared.plan.Plan.TheVariants as plans
use Rattle.rp_server.specs.Invariant.{IsRightPromise, IsRightProposal, IsProposer, IsServer}
use Rattle.rp_learner.specs.Learning.{Learning}
use Rattle.rp_log.specs.Contents.{Contents}
use Rattle.rp_machine.specs.Numbered.{Applied}

some_same : (p q : Proposal) → Some p ≡ Some q → p ≡ q
some_same p q e = cc

-- ---- the proposal at a position

found_here : (rest : List Proposal) (i : ℕ) (q p : Proposal) (here : Bool) → nat_eq q.position i ≡ here → (proposal_at rest i ≡ Some p → p.position ≡ i)
    → cond here (Some q) (proposal_at rest i) ≡ Some p → p.position ≡ i
found_here rest i q p true at later e = subst (λ (r : Proposal). r.position ≡ i) (some_same q p e) (eqb-true q.position i at)
found_here rest i q p false at later e = later e

-- it runs there
pub at_position : (ps : List Proposal) (i : ℕ) (p : Proposal) → proposal_at ps i ≡ Some p → p.position ≡ i
at_position [] i p e = absurd (cc)
at_position (q ∷ rest) i p e = found_here rest i q p (nat_eq q.position i) refl (at_position rest i p) e

put_here : (rest : List Proposal) (q p : Proposal) (here : Bool) → (proposal_at rest p.position ≡ Some p → with_proposal rest p ≡ rest)
    → cond here (Some q) (proposal_at rest p.position) ≡ Some p → cond here (p ∷ rest) (q ∷ with_proposal rest p) ≡ q ∷ rest
put_here rest q p true later e = ap (λ (r : Proposal). r ∷ rest) (sym (some_same q p e))
put_here rest q p false later e = ap (λ (rs : List Proposal). q ∷ rs) (later e)

-- put back it changes nothing
put_back : (ps : List Proposal) (p : Proposal) → proposal_at ps p.position ≡ Some p → with_proposal ps p ≡ ps
put_back [] p e = absurd (cc)
put_back (q ∷ rest) p e = put_here rest q p (nat_eq q.position p.position) (put_back rest p) e

pub same_back : (ps : List Proposal) (i : ℕ) (p : Proposal) → proposal_at ps i ≡ Some p → with_proposal ps p ≡ ps
same_back ps i p e = put_back ps p (subst (λ (j : ℕ). proposal_at ps j ≡ Some p) (sym (at_position ps i p e)) e)

-- ---- the plan, by what the proposer answers

-- what a promise is planned for, by whether the proposal waits for promises
abbrev pub promise_plan : CountedPromise → Bool → Progress → Plan
promise_plan promise prep Waiting = cond prep (plans.CountPromise promise) (plans.Pass No)
promise_plan promise prep (Offer v) = plans.Offer promise v
promise_plan promise prep Stale = plans.Pass No

plan_by : (promise : CountedPromise) (v : Action) (same prep alone many : Bool)
    → promise_plan promise prep (cond (same && alone) (cond (prep && many) (Offer v) Waiting) Stale)
    ≡ cond (same && (prep && alone)) (cond many (plans.Offer promise v) (plans.CountPromise promise)) (plans.Pass No)
plan_by promise v true true true true = refl
plan_by promise v true true true false = refl
plan_by promise v true true false many = refl
plan_by promise v true false true many = refl
plan_by promise v true false false many = refl
plan_by promise v false prep alone many = refl

plan_to : (nodes : ℕ) (promise : CountedPromise) (o : Option Proposal)
    → promise_plan promise (waits_for_promises o) (progress_in nodes promise.ballot (promise.from, promise.last) o) ≡ on_promise_to nodes promise o
plan_to nodes promise None = refl
plan_to nodes promise (Some p) =
    let after = with_promise p (promise.from, promise.last) in
    plan_by promise (offer_of p.own after.promises) (nat_eq p.ballot promise.ballot) (is_preparing p.phase) (not p.ranged) (is_promised nodes after)

-- the plan of a promise, by what the proposer answered
pub plan_is : {S : Type 0} (node : RunningNode S) (promise : CountedPromise) (answer : Progress)
    → answer ≡ progress_in (nodes_of node) promise.ballot (promise.from, promise.last) (proposal_at node.running.proposals promise.position)
    → promise_plan promise (waits_for_promises (proposal_at node.running.proposals promise.position)) answer ≡ on_promise node promise
plan_is node promise answer is =
    let at = proposal_at node.running.proposals promise.position in
    ap (promise_plan promise (waits_for_promises at)) is ∙ plan_to (nodes_of node) promise at

-- where a promise is waited for, or not
pub plan_waits : {S : Type 0} (node : RunningNode S) (promise : CountedPromise) (prep : Bool)
    → prep ≡ waits_for_promises (proposal_at node.running.proposals promise.position)
    → Waiting ≡ progress_in (nodes_of node) promise.ballot (promise.from, promise.last) (proposal_at node.running.proposals promise.position)
    → promise_plan promise prep Waiting ≡ on_promise node promise
plan_waits node promise prep waits is = ap (λ (b : Bool). promise_plan promise b Waiting) waits ∙ plan_is node promise Waiting is

-- ---- what is offered is right

higher_right : (v : Vote) (o : Option Vote) → IsRightVote v → IfSome o IsRightVote → IsRightVote (higher_vote v o)
higher_right v None right rest = right
higher_right v (Some w) right rest = elim (nat_lt v.ballot w.ballot) as (λ t. IsRightVote (cond t w v)) [ true ↦ rest | false ↦ right ]

highest_more : (o : Option Vote) (votes : List Vote) → IfSome o IsRightVote → IfSome (highest votes) IsRightVote → IfSome (highest (cons_option o votes)) IsRightVote
highest_more None votes right rest = rest
highest_more (Some v) votes right rest = higher_right v (highest votes) right rest

pub highest_right : (promises : List Promise) → AllByRecursion IsRightPromise promises → IfSome (highest (filter_map (λ p. p.1) promises)) IsRightVote
highest_right [] right = tt
highest_right (promise ∷ rest) right = highest_more promise.1 (filter_map (λ p. p.1) rest) right.0 (highest_right rest right.1)

all_last : (ps : List Promise) (promise : Promise) → AllByRecursion IsRightPromise ps → IsRightPromise promise → AllByRecursion IsRightPromise (ps ++ promise ∷ [])
all_last [] promise all right = (right, tt)
all_last (p ∷ ps) promise all right = (all.0, all_last ps promise all.1 right)

promised_right : (p : Proposal) (promise : Promise) → IsRightProposal p → IsRightPromise promise → IsRightProposal (with_promise p promise)
promised_right p promise right last = record {
  own = right.own;
  promises =
      elim (list_any (same_promise promise) p.promises) as (λ t. AllByRecursion IsRightPromise (cond t p.promises (p.promises ++ promise ∷ []))) [
        | true ↦ right.promises
        | false ↦ all_last p.promises promise right.promises last
      ];
}

-- what a promise makes a proposer offer is right
offered : Progress → Action
offered Waiting = Noop
offered (Offer v) = v
offered Stale = Noop

offer_by : (v : Action) (same many : Bool) → IsRight v → IsRight (offered (cond same (cond many (Offer v) Waiting) Stale))
unfolding offered
offer_by v true true right = right
offer_by v true false right = tt
offer_by v false many right = tt

offer_is_right : (own : Option Action) (promises : List Promise) → IfSome own IsRight → AllByRecursion IsRightPromise promises → IsRight (offer_of own promises)
offer_is_right own promises right all = by own right (highest (filter_map (λ (p : Promise). p.1) promises)) (highest_right promises all)
  where
    by : (own : Option Action) → IfSome own IsRight → (o : Option Vote) → IfSome o IsRightVote → IsRight (action_or (unwrap_or own Noop) o)
    by own right (Some vote) voted = voted
    by None right None voted = tt
    by (Some v) right None voted = right

progress_right : (nodes b : ℕ) (promise : Promise) (o : Option Proposal) → IfSome o IsRightProposal → IsRightPromise promise → IsRight (offered (progress_in nodes b promise o))
unfolding offered
progress_right nodes b promise None right last = tt
progress_right nodes b promise (Some p) right last =
    let after = with_promise p promise in
    let fine : IsRightProposal after = promised_right p promise right last in
    offer_by (offer_of p.own after.promises) (asks_in b p) (is_preparing p.phase && is_promised nodes after) (offer_is_right p.own after.promises fine.own fine.promises)

pub all_found : (ps : List Proposal) (i : ℕ) → AllByRecursion IsRightProposal ps → IfSome (proposal_at ps i) IsRightProposal
all_found [] i all = tt
all_found (p ∷ rest) i all = elim (nat_eq p.position i) as (λ t. IfSome (cond t (Some p) (proposal_at rest i)) IsRightProposal) [ true ↦ all.0 | false ↦ all_found rest i all.1 ]

pub offers_right : (ps : List Proposal) (nodes i b : ℕ) (promise : Promise) (v : Action) → AllByRecursion IsRightProposal ps → IsRightPromise promise
    → Offer v ≡ progress_in nodes b promise (proposal_at ps i) → IsRight v
unfolding offered
offers_right ps nodes i b promise v all last is = subst (λ (a : Progress). IsRight (offered a)) (sym is) (progress_right nodes b promise (proposal_at ps i) (all_found ps i all) last)

-- ---- the proposals still hang together

once_right : (nodes b : ℕ) (p : Proposal) (promise : Promise) → IsRightProposal p → IsRightPromise promise → IsRightProposal (once_noted nodes b p promise)
once_right nodes b p promise right last = by (takes_promise b p) (is_promised nodes (with_promise p promise))
  where
    by : (counts many : Bool) → IsRightProposal (cond counts (cond many (record (with_promise p promise) { phase = Offering }) (with_promise p promise)) p)
    by true true = record { own = right.own; promises = (promised_right p promise right last).promises }
    by true false = promised_right p promise right last
    by false many = right

pub put_right : (ps : List Proposal) (q : Proposal) → AllByRecursion IsRightProposal ps → IsRightProposal q → AllByRecursion IsRightProposal (with_proposal ps q)
put_right [] q all right = (right, tt)
put_right (p ∷ rest) q all right =
    elim (nat_eq p.position q.position) as (λ t. AllByRecursion IsRightProposal (cond t (q ∷ rest) (p ∷ with_proposal rest q))) [
      | true ↦ (right, all.1)
      | false ↦ (all.0, put_right rest q all.1 right)
    ]

abbrev pub places : List Proposal → List ℕ
places ps = map (λ p. p.position) ps

put_places : (rest : List Proposal) (q p r : Proposal) (here : Bool) → nat_eq r.position q.position ≡ here → (proposal_at rest q.position ≡ Some p → places (with_proposal rest q) ≡ places rest)
    → cond here (Some r) (proposal_at rest q.position) ≡ Some p → places (cond here (q ∷ rest) (r ∷ with_proposal rest q)) ≡ places (r ∷ rest)
put_places rest q p r true at later e = ap (λ (i : ℕ). i ∷ places rest) (sym (eqb-true r.position q.position at))
put_places rest q p r false at later e = ap (λ (is : List ℕ). r.position ∷ is) (later e)

pub same_places : (ps : List Proposal) (q p : Proposal) → proposal_at ps q.position ≡ Some p → places (with_proposal ps q) ≡ places ps
same_places [] q p e = absurd (cc)
same_places (r ∷ rest) q p e = put_places rest q p r (nat_eq r.position q.position) refl (same_places rest q p) e

place_of_fewer : (test : Proposal → Bool) (ps : List Proposal) (j : ℕ) → Has j (places (filter test ps)) → Has j (places ps)
place_of_fewer test ps j h =
    let from = mapped_has (λ (p : Proposal). p.position) j (filter test ps) h in
    subst (λ (i : ℕ). Has i (places ps)) (sym from.2) (has_mapped (λ (p : Proposal). p.position) from.0 ps (has_passing test from.0 ps from.1).0)

fewer_places : (test : Proposal → Bool) (ps : List Proposal) → IsSet (places ps) → IsSet (places (filter test ps))
fewer_places test [] different = tt
fewer_places test (p ∷ rest) different =
    elim (test p) as (λ t. IsSet (places (cond t (p ∷ filter test rest) (filter test rest)))) [
      | true ↦ (λ h. different.0 (place_of_fewer test rest p.position h), fewer_places test rest different.1)
      | false ↦ fewer_places test rest different.1
    ]

fewer_right : (test : Proposal → Bool) (ps : List Proposal) → AllByRecursion IsRightProposal ps → AllByRecursion IsRightProposal (filter test ps)
fewer_right test [] all = tt
fewer_right test (p ∷ rest) all =
    elim (test p) as (λ t. AllByRecursion IsRightProposal (cond t (p ∷ filter test rest) (filter test rest))) [
      | true ↦ (all.0, fewer_right test rest all.1)
      | false ↦ fewer_right test rest all.1
    ]

-- ---- proposals of a range

ranged_place : (nodes from : ℕ) (range : Range) (b : ℕ) (votes : List PlacedVote) (p : Proposal) → (once_promised nodes from range b votes p).position ≡ p.position
ranged_place nodes from range b votes p = by (is_covered range p.position && takes_range_promise nodes b p)
  where
    by : (t : Bool) → (cond t (with_promise p (from, placed_at votes p.position)) p).position ≡ p.position
    by true = refl
    by false = refl

ranged_places : (nodes from : ℕ) (range : Range) (b : ℕ) (votes : List PlacedVote) (ps : List Proposal) → places (map (once_promised nodes from range b votes) ps) ≡ places ps
ranged_places nodes from range b votes [] = refl
ranged_places nodes from range b votes (p ∷ rest) =
    let here = ranged_place nodes from range b votes p in
    let later = ranged_places nodes from range b votes rest in
    λ i. here i ∷ later i

placed_right : (votes : List PlacedVote) (i : ℕ) → AllByRecursion (λ placed. IsRightVote placed.vote) votes → IfSome (placed_at votes i) IsRightVote
placed_right [] i all = tt
placed_right (placed ∷ rest) i all = by (nat_eq placed.position i) (placed_right rest i all.1)
  where
    by : (b : Bool) → IfSome (placed_at rest i) IsRightVote → IfSome (option_map (λ (q : PlacedVote). q.vote) (cond b (Some placed) (find (λ (q : PlacedVote). nat_eq q.position i) rest))) IsRightVote
    by true later = all.0
    by false later = later

ranged_right : (nodes from : ℕ) (range : Range) (b : ℕ) (votes : List PlacedVote) (ps : List Proposal) → AllByRecursion (λ placed. IsRightVote placed.vote) votes → AllByRecursion IsRightProposal ps
    → AllByRecursion IsRightProposal (map (once_promised nodes from range b votes) ps)
ranged_right nodes from range b votes [] right all = tt
ranged_right nodes from range b votes (p ∷ rest) right all =
    (by (is_covered range p.position && takes_range_promise nodes b p), ranged_right nodes from range b votes rest right all.1)
  where
    by : (t : Bool) → IsRightProposal (cond t (with_promise p (from, placed_at votes p.position)) p)
    by true = promised_right p (from, placed_at votes p.position) all.0 (placed_right votes p.position right)
    by false = all.0

offered_there : (nodes : ℕ) (own : Action) (p : Proposal) → (once_offered nodes own p).position ≡ p.position
offered_there nodes own p = by (is_prepared nodes p)
  where
    by : (t : Bool) → (cond t (as_offered own p) p).position ≡ p.position
    by true = refl
    by false = refl

own_right : (own : Action) (o : Option Vote) → IsRight own → IfSome (own_unless own o) IsRight
own_right own None right = right
own_right own (Some vote) right = tt

offered_right : (nodes : ℕ) (own : Action) (p : Proposal) → IsRight own → IsRightProposal p → IsRightProposal (once_offered nodes own p)
offered_right nodes own p right all = by (is_prepared nodes p)
  where
    by : (t : Bool) → IsRightProposal (cond t (as_offered own p) p)
    by true = record { own = own_right own (highest_vote p.promises) right; promises = all.promises }
    by false = all

module _ (me : ℕ) (config : Config) (records : List Rec) (taken : ℕ) (part : ProposerPart) (t : IsProposer me config records taken part) where
  -- with another proposal in place of the one at its position
  put_in : (i : ℕ) (q p : Proposal) → proposal_at part.proposals i ≡ Some p → q.position ≡ i → IsRightProposal q → IsProposer me config records taken (record part { proposals = with_proposal part.proposals q })
  put_in i q p at place right =
      let same : places (with_proposal part.proposals q) ≡ places part.proposals = same_places part.proposals q p (ap (proposal_at part.proposals) place ∙ at) in
      record {
        node = t.node;
        nodes = t.nodes;
        started = t.started;
        window = record {
          different = subst IsSet (sym same) t.window.different;
          inside = λ j h. t.window.inside j (subst (λ (is : List ℕ). Has j is) same h);
        };
        unlearned = λ j h. t.unlearned j (subst (λ (is : List ℕ). Has j is) same h);
        right = put_right part.proposals q t.right right;
      }

  noted_in : (b i : ℕ) (promise : Promise) → IsRightPromise promise → (o : Option Proposal) → proposal_at part.proposals i ≡ o → IfSome o IsRightProposal
      → IsProposer me config records taken (notes_promise part b promise o)
  noted_in b i promise last None at right = t
  noted_in b i promise last (Some p) at right =
      put_in i (once_noted part.nodes b p promise) p at (noted_there part.nodes b p promise ∙ at_position part.proposals i p at) (once_right part.nodes b p promise right last)

  -- once a promise is noted
  pub leads_promised : (b i : ℕ) (promise : Promise) → IsRightPromise promise → IsProposer me config records taken (notes_promise part b promise (proposal_at part.proposals i))
  leads_promised b i promise last = noted_in b i promise last (proposal_at part.proposals i) refl (all_found part.proposals i t.right)

  -- with fewer proposals
  pub leads_passing : (test : Proposal → Bool) (refused : Option ℕ) → IsProposer me config records taken (record part { proposals = filter test part.proposals; refused = refused })
  leads_passing test refused = record {
    node = t.node;
    nodes = t.nodes;
    started = t.started;
    window = record {
      different = fewer_places test part.proposals t.window.different;
      inside = λ j h. t.window.inside j (place_of_fewer test part.proposals j h);
    };
    unlearned = λ j h. t.unlearned j (place_of_fewer test part.proposals j h);
    right = fewer_right test part.proposals t.right;
  }

  -- once a refusal is noted
  pub leads_refused : (i b bound : ℕ) → IsProposer me config records taken (notes_refusal part i b bound)
  leads_refused i b bound =
      let less = record part { proposals = filter (λ p. not (is_given_up part.nodes i b p)) part.proposals; refused = greatest_with part.refused bound } in
      elim (is_in b (proposal_at part.proposals i)) as (λ s. IsProposer me config records taken (cond s less part)) [
        | true ↦ leads_passing (λ p. not (is_given_up part.nodes i b p)) (greatest_with part.refused bound)
        | false ↦ t
      ]

  -- once a promise for a range is noted
  pub leads_promised_range : (from : ℕ) (range : Range) (b : ℕ) (votes : List PlacedVote) → AllByRecursion (λ placed. IsRightVote placed.vote) votes
      → IsProposer me config records taken (notes_range part from range b votes)
  leads_promised_range from range b votes right =
      let same : places (map (once_promised part.nodes from range b votes) part.proposals) ≡ places part.proposals = ranged_places part.nodes from range b votes part.proposals in
      record {
        node = t.node;
        nodes = t.nodes;
        started = t.started;
        window = record {
          different = subst IsSet (sym same) t.window.different;
          inside = λ j h. t.window.inside j (subst (λ (is : List ℕ). Has j is) same h);
        };
        unlearned = λ j h. t.unlearned j (subst (λ (is : List ℕ). Has j is) same h);
        right = ranged_right part.nodes from range b votes part.proposals right t.right;
      }

  offered_in : (i : ℕ) (own : Action) → IsRight own → (o : Option Proposal) → proposal_at part.proposals i ≡ o → IfSome o IsRightProposal → IsProposer me config records taken (offers part own o)
  offered_in i own right None at all = t
  offered_in i own right (Some p) at all =
      put_in i (once_offered part.nodes own p) p at (offered_there part.nodes own p ∙ at_position part.proposals i p at) (offered_right part.nodes own p right all)

  -- once a prepared proposal offers
  pub leads_offered : (i : ℕ) (own : Action) → IsRight own → IsProposer me config records taken (offers part own (proposal_at part.proposals i))
  leads_offered i own right = offered_in i own right (proposal_at part.proposals i) refl (all_found part.proposals i t.right)

module _ {S : Type 0} (me : ℕ) (config : Config) (records : List Rec) (proposer after : ProposerPart) (learner : Learning) (votes : List HeardVote) (log : Contents) (applied : Applied S) where
  -- the same parts with another proposer
  pub server_leading : IsServer me config records proposer learner votes log applied → IsProposer me config records (length log.taken) after → IsServer me config records after learner votes log applied
  server_leading t leads = record {
    sizes = t.sizes;
    member = t.member;
    right = t.right;
    leads = leads;
    learns = t.learns;
    applies = t.applies;
  }
