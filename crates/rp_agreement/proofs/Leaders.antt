-- A node's steps as a leader are sound.
use Rattle.std.proofs.Common.{◌≡◌, ℕ, ◌+◌, ◌-◌, ◌/◌, ◌<◌, ◌≤◌, max, Bool, true, false, if◌then◌else◌, Option, Some, None, List, [], ◌∷◌, ◌++◌, map, inl, inr, refl, sym, ap, subst, ◌∙◌, arith}
use Rattle.std.specs.Prelude.{◌&&◌, not, IfSome, find, filter}
use Rattle.std.proofs.lemmas.Bool.{cases_Bool, cond-true, cond-false, eqb-true, and_parts, false≢true}
use Rattle.std.proofs.Math.Nat.{mul-add-mod_self_left, mod-eq_of_lt}
use Rattle.rp_base.specs.declared.action.Action.{Action}
use Rattle.rp_base.specs.declared.action.Action.TheVariants.{Noop}
use Rattle.rp_base.specs.declared.proposal.Phase.{Phase}
use Rattle.rp_base.specs.declared.proposal.Phase.TheVariants.{Preparing, Offering}
use Rattle.rp_base.specs.declared.record.Vote.{Vote}
use Rattle.rp_base.specs.declared.record.Rec.{Rec}
use Rattle.rp_base.specs.declared.record.Rec.TheVariants.{Started}
use Rattle.rp_base.specs.Ballot.{owner_of, next_ballot, greatest_with}
use Rattle.rp_base.specs.Sets.{Has, IsSet}
use Rattle.rp_base.specs.declared.placed.PlacedVote.{PlacedVote}
use Rattle.rp_base.specs.PlacedVotes.{placed_at}
use Rattle.rp_base.specs.Ranges.{Range, is_covered}
use Rattle.rp_base.specs.Records.{started_of}
use Rattle.rp_base.specs.Promises.{Promise, same_promise, offer_of}
use Rattle.rp_base.specs.Proposals.{Proposal, new_proposal, proposal_at, with_proposal, is_in, is_preparing, with_promise, is_promised, takes_range_promise, range_proposal, with_range, once_promised, own_unless, is_given_up}
use Rattle.rp_base.proofs.Members.{has_right, has_passing, mapped_has}
use Rattle.rp_codec.specs.Message.{Message}
use Rattle.rp_codec.specs.declared.packet.Body.TheVariants as bodies
use Rattle.rp_machine.specs.Replay.{one_to}
use Rattle.rp_agreement.specs.Asked.{IsAsked}
use Rattle.rp_agreement.specs.Sound.{IsSo, IsProposal, IsRunning, IsSound}
use Rattle.rp_base.specs.Proposals.{after_promise}
use Rattle.rp_base.specs.Promises.{action_or}
use Rattle.std.specs.Prelude.{unwrap_or}
use Rattle.rp_agreement.proofs.Lists.{some_same, found_has}
use Rattle.rp_agreement.proofs.RecordGrowth.{started_below}
use Rattle.rp_agreement.proofs.Turns.{IsSoundTurn}
use Rattle.rp_agreement.proofs.Proposing.{member_or_new, proposal_or_new}
use Rattle.rp_base.proofs.Apart.{with_apart, passing_apart, positions_stay, promised_there}
use Rattle.rp_agreement.proofs.Offering.{noop_asked, own_or_noop, offer_is_asked, founds}
use Rattle.rp_model.specs.Leader.{refused_running}
use Rattle.rp_model.specs.Facts.{HasPromised, IsOffered}
use Rattle.rp_model.specs.Parts.{NodePart, Running}
use Rattle.rp_model.specs.Pending.{is_free_item, own_action}
use Rattle.rp_model.specs.Says.{says, says_to_all, sends}

-- a node that puts a proposal in its place knows what it knew
pub runs_with : (sent : List Message) (records : List Rec) (running : Running) (q : Proposal) → IsRunning sent records running → IsProposal sent records q
    → IsRunning sent records (record running { proposals = with_proposal running.proposals q })
runs_with sent records running q runs new = record {
  proposals = λ p h. elim (proposal_or_new p q running.proposals runs.apart h) [
    | inl same ↦ subst (IsProposal sent records) (sym same) new
    | inr old ↦ runs.proposals p old.0
  ];
  apart = with_apart q running.proposals runs.apart;
  pending = runs.pending;
  heard = runs.heard;
}

-- ---- Promise

promised_with : (sent : List Message) (p : Proposal) (from : ℕ) (last : Option Vote)
    → ((a : ℕ) (o : Option Vote) → (let r : Promise = (a, o) in Has r p.promises) → HasPromised sent a p.position p.ballot o)
    → HasPromised sent from p.position p.ballot last
    → (a : ℕ) (o : Option Vote) → (let r : Promise = (a, o) in Has r (with_promise p (from, last)).promises) → HasPromised sent a p.position p.ballot o
promised_with sent p from last old new a o h =
    let one : Promise = (a, o) in
    let other : Promise = (from, last) in
    elim (member_or_new same_promise one other p.promises h) [
      | inl before ↦ old a o before
      | inr same ↦
          subst (λ (k : ℕ). HasPromised sent k p.position p.ballot o) (sym (ap (λ (r : Promise). r.0) same))
          (subst (λ (u : Option Vote). HasPromised sent from p.position p.ballot u) (sym (ap (λ (r : Promise). r.1) same)) new)
    ]

-- one promise more
pub more_promised : (sent : List Message) (records : List Rec) (p : Proposal) (from : ℕ) (last : Option Vote) → IsProposal sent records p
    → HasPromised sent from p.position p.ballot last → IsProposal sent records (with_promise p (from, last))
more_promised sent records p from last is stated = record {
  started = is.started;
  promised = promised_with sent p from last is.promised stated;
  asked = is.asked;
  unoffered = is.unoffered;
}

-- the second phase
abbrev pub offering : Proposal → Proposal
offering p = record p { phase = Offering }

never_waits : {A : Type 0} → Offering ≡ Preparing → A
never_waits e = absurd (cc)

pub now_offers : (sent : List Message) (records : List Rec) (p : Proposal) → IsProposal sent records p → IsProposal sent records (offering p)
now_offers sent records p is = record {
  started = is.started;
  promised = is.promised;
  asked = is.asked;
  unoffered = λ waits. never_waits waits;
}

-- what is offered to all is one action
pub offer_is : (x i b : ℕ) (u : Action) (to : List ℕ) (j c : ℕ) (v : Action) → IsOffered (map (says x (bodies.Accept i b u)) to) j c v → (j ≡ i) × (c ≡ b) × (v ≡ u)
offer_is x i b u to j c v offer =
    let hit = mapped_has (says x (bodies.Accept i b u)) _ to offer.2 in
    let same : bodies.Accept j c v ≡ bodies.Accept i b u = ap (λ (m : Message). m.body) hit.2 in
    (cc, cc, cc)

pub offers_sound : (nodes x : ℕ) (node : ℕ → NodePart) (sent : List Message) (running : Running) (p : Proposal)
    → IsSound nodes node sent → IsRunning sent (node x).records running → IsProposal sent (node x).records p → p.phase ≡ Preparing
    → is_promised nodes p ≡ true
    → IsSoundTurn nodes x (node x).records sent
    (sends (record running { proposals = with_proposal running.proposals (offering p) }) (says_to_all nodes x (bodies.Accept p.position p.ballot (offer_of p.own p.promises))))
offers_sound nodes x node sent running p sound runs is waits most =
    let v = offer_of p.own p.promises in
    let accept = bodies.Accept p.position p.ballot v in
    let so : IsSo nodes sent (node x).records accept = (
      is.started,
      founds nodes sent p.position p.ballot p.promises p.own is.promised most,
      offer_is_asked nodes node sent sound p.position p.ballot p.promises p.own is.promised is.asked,
    ) in
    record {
      writes = tt;
      from = λ m h. ap (λ (k : Message). k.from) (mapped_has (says x accept) m (one_to nodes) h).2;
      says = λ m h. subst (λ (k : Message). IsSo nodes sent (node x).records k.body) (sym (mapped_has (says x accept) m (one_to nodes) h).2) so;
      unoffered = λ j c u w offer old.
          let which = offer_is x p.position p.ballot v (one_to nodes) j c u offer in
          is.unoffered waits w (subst (λ (b : ℕ). IsOffered sent p.position b w) which.1 (subst (λ (i : ℕ). IsOffered sent i c w) which.0 old));
      one_offer = λ j c u w one two.
          (offer_is x p.position p.ballot v (one_to nodes) j c u one).2 ∙ sym (offer_is x p.position p.ballot v (one_to nodes) j c w two).2;
      runs = λ after e. subst (IsRunning sent (node x).records) (some_same e) (runs_with sent (node x).records running (offering p) runs (now_offers sent (node x).records p is));
      waits = λ after e q h preparing u offer.
          let there = subst (λ (r : Running). Has q r.proposals) (sym (some_same e)) h in
          elim (proposal_or_new q (offering p) running.proposals runs.apart there) [
            | inl same ↦ never_waits (sym (ap (λ (r : Proposal). r.phase) same) ∙ preparing)
            | inr old ↦ old.1 (offer_is x p.position p.ballot v (one_to nodes) q.position q.ballot u offer).0
          ];
    }

-- with a majority the proposal that takes a promise offers
pub after_majority : (nodes : ℕ) (p : Proposal) (one : Promise) → is_promised nodes (with_promise p one) ≡ true → after_promise nodes p one ≡ offering (with_promise p one)
after_majority nodes p one most = cond-true (is_promised nodes (with_promise p one)) (offering (with_promise p one)) (with_promise p one) most

pub after_few : (nodes : ℕ) (p : Proposal) (one : Promise) → is_promised nodes (with_promise p one) ≡ false → after_promise nodes p one ≡ with_promise p one
after_few nodes p one few = cond-false (is_promised nodes (with_promise p one)) (offering (with_promise p one)) (with_promise p one) few

pub waits_by : (phase : Phase) → is_preparing phase ≡ true → phase ≡ Preparing
waits_by Preparing e = refl
waits_by Offering e = absurd (false≢true e)

-- ---- Nack

-- a node that gives up proposals knows what it knew
pub runs_passing : (sent : List Message) (records : List Rec) (running : Running) (test : Proposal → Bool) (refused : Option ℕ) → IsRunning sent records running
    → IsRunning sent records (record running { proposals = filter test running.proposals; refused = refused })
runs_passing sent records running test refused runs = record {
  proposals = λ p h. runs.proposals p (has_passing test p running.proposals h).0;
  apart = passing_apart test running.proposals runs.apart;
  pending = runs.pending;
  heard = runs.heard;
}

pub refused_sound : (nodes x : ℕ) (records : List Rec) (sent : List Message) (running : Running) (i b bound : ℕ) → IsRunning sent records running
    → IsRunning sent records (refused_running nodes running i b bound)
refused_sound nodes x records sent running i b bound runs =
    let known = record running { proposals = filter (λ p. not (is_given_up nodes i b p)) running.proposals; refused = greatest_with running.refused bound } in
    elim (is_in b (proposal_at running.proposals i)) as (λ t. IsRunning sent records (if t then known else running)) [
      | true ↦ runs_passing sent records running (λ p. not (is_given_up nodes i b p)) (greatest_with running.refused bound) runs
      | false ↦ runs
    ]

-- ---- PromiseRange

once_noted_is : (nodes : ℕ) (sent : List Message) (records : List Rec) (from : ℕ) (range : Range) (b : ℕ) (votes : List PlacedVote) (p : Proposal)
    → ((i : ℕ) → is_covered range i ≡ true → HasPromised sent from i b (placed_at votes i)) → IsProposal sent records p
    → IsProposal sent records (once_promised nodes from range b votes p)
once_noted_is nodes sent records from range b votes p stated is =
    let after = with_promise p (from, placed_at votes p.position) in
    elim (cases_Bool (is_covered range p.position && takes_range_promise nodes b p)) [
      | inl takes ↦
          let both = and_parts (is_covered range p.position) (takes_range_promise nodes b p) takes in
          let ballot : p.ballot ≡ b = eqb-true p.ballot b (and_parts _ _ both.1).0 in
          subst (IsProposal sent records) (sym (cond-true (is_covered range p.position && takes_range_promise nodes b p) after p takes))
          (more_promised sent records p from (placed_at votes p.position) is
          (subst (λ (c : ℕ). HasPromised sent from p.position c (placed_at votes p.position)) (sym ballot) (stated p.position both.0)))
      | inr passes ↦ subst (IsProposal sent records) (sym (cond-false (is_covered range p.position && takes_range_promise nodes b p) after p passes)) is
    ]

pub range_noted : (nodes : ℕ) (records : List Rec) (sent : List Message) (running : Running) (from : ℕ) (range : Range) (b : ℕ) (votes : List PlacedVote)
    → IsRunning sent records running → ((i : ℕ) → is_covered range i ≡ true → HasPromised sent from i b (placed_at votes i))
    → IsRunning sent records (record running { proposals = map (once_promised nodes from range b votes) running.proposals })
range_noted nodes records sent running from range b votes runs stated =
    let f = once_promised nodes from range b votes in
    record {
      proposals = λ q h.
          let hit = mapped_has f q running.proposals h in
          subst (IsProposal sent records) (sym hit.2) (once_noted_is nodes sent records from range b votes hit.0 stated (runs.proposals hit.0 hit.1));
      apart = subst (λ (l : List ℕ). IsSet l) (sym (positions_stay f (promised_there nodes from range b votes) running.proposals)) runs.apart;
      pending = runs.pending;
      heard = runs.heard;
    }

-- ---- Lead

-- the next ballot is the node's own, and above
pub next_owned : (x floor : ℕ) → x < 8 → owner_of (next_ballot x floor) ≡ x
next_owned x floor small =
    let round = max 1 ((floor + 8 - x) / 8) in
    mul-add-mod_self_left 8 round x ∙ mod-eq_of_lt small

pub next_above : (x floor : ℕ) → x < 8 → floor < next_ballot x floor
next_above x floor small = omega (arith, small)

-- nothing is offered in a ballot of the node's own that it did not start
pub new_unoffered : (nodes x : ℕ) (node : ℕ → NodePart) (sent : List Message) (i b : ℕ) (v : Action) → IsSound nodes node sent → owner_of b ≡ x → started_of (node x).records < b
    → ¬ IsOffered sent i b v
new_unoffered nodes x node sent i b v sound own above offer =
    let started = (sound.says _ offer.2).1.0 in
    let same : offer.0 ≡ x = sym (sound.started offer.0 b started) ∙ own in
    let below : b ≤ started_of (node x).records = started_below b (node x).records (subst (λ (k : ℕ). Has (Started b) (node k).records) same started) in
    absurd (omega (arith, below, above))

item_is_so : (P : Action → Type 0) (kept : List Action) (others : List Proposal) (pending : List Action) (item : Option Action)
    → ((c : Action) → Has c pending → P c) → find (is_free_item kept others) pending ≡ item → IfSome item P
item_is_so P kept others pending None each is = tt
item_is_so P kept others pending (Some c) each is = each c (found_has (is_free_item kept others) c pending is).0

-- a fact of each pending item and of the action that does nothing is one of what a proposal takes as its own
pub own_is_so : (P : Action → Type 0) (kept : List Action) (others : List Proposal) (pending : List Action) → P Noop → ((c : Action) → Has c pending → P c)
    → P (own_action kept others pending)
own_is_so P kept others pending noop each =
    own_or_noop P (find (is_free_item kept others) pending) noop (item_is_so P kept others pending (find (is_free_item kept others) pending) each refl)

pub own_is_asked : (sent : List Message) (kept : List Action) (others : List Proposal) (pending : List Action) → ((c : Action) → Has c pending → IsAsked sent c)
    → IsAsked sent (own_action kept others pending)
own_is_asked sent kept others pending asked = own_is_so (IsAsked sent) kept others pending (noop_asked sent) asked

pub started_new : (sent : List Message) (records : List Rec) (i b : ℕ) (own : Action) → ((v : Action) → ¬ IsOffered sent i b v) → IsAsked sent own
    → IsProposal sent (records ++ Started b ∷ []) (new_proposal i b (Some own))
started_new sent records i b own unoffered asked = record {
  started = has_right (Started b) records (Started b ∷ []) (inl refl);
  promised = λ a last h. absurd h;
  asked = asked;
  unoffered = λ _. unoffered;
}

pub unless_is_so : (P : Action → Type 0) (own : Action) (vote : Option Vote) → P own → IfSome (own_unless own vote) P
unless_is_so P own None is = is
unless_is_so P own (Some vote) is = tt

-- ---- LeadRange

started_range : (sent : List Message) (records : List Rec) (i b : ℕ) → Has (Started b) records → ((v : Action) → ¬ IsOffered sent i b v) → IsProposal sent records (range_proposal b i)
started_range sent records i b started unoffered = record {
  started = started;
  promised = λ a last h. absurd h;
  asked = tt;
  unoffered = λ _. unoffered;
}

pub runs_ranged : (sent : List Message) (records : List Rec) (b : ℕ) → Has (Started b) records → ((i : ℕ) (v : Action) → ¬ IsOffered sent i b v) → (positions : List ℕ) (running : Running)
    → IsRunning sent records running → IsRunning sent records (record running { proposals = with_range running.proposals b positions })
runs_ranged sent records b started unoffered [] running runs = runs
runs_ranged sent records b started unoffered (i ∷ rest) running runs =
    runs_ranged sent records b started unoffered rest (record running { proposals = with_proposal running.proposals (range_proposal b i) })
    (runs_with sent records running (range_proposal b i) runs (started_range sent records i b started (unoffered i)))

-- what is offered, where the own action counts only if no promise reports a vote
pub own_offer : (own : Action) (o : Option Vote) → action_or (unwrap_or (own_unless own o) Noop) o ≡ action_or own o
own_offer own None = refl
own_offer own (Some vote) = refl
