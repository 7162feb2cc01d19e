-- What a node knows once a proposal of its was refused.
use Rattle.std.proofs.Common.{◌≡◌, ◌≢◌, ◌↔◌, ℕ, ◌≤◌, ◌<◌, Bool, true, false, if◌then◌else◌, Option, Some, None, Result, Ok, List, [], ◌∷◌, filter, inl, inr, refl, sym, ap, subst, ◌∙◌, arith, eq-eqb, eqb-true}
use Rattle.std.specs.Prelude.{nat_eq, max, not, ◌&&◌}
use Rattle.std.proofs.lemmas.Bool.{cases_Bool, cond-true, cond-false, and_from, and_parts, or_from, or_parts, not_from_false, not-true, ne_eqb, both_ways}
use Rattle.rp_base.specs.Ballot.{next_ballot, number_of, greatest_with}
use Rattle.rp_base.specs.Number.{IsNode}
use Rattle.rp_base.specs.Proposals.{Proposal, proposal_at, is_in, is_gathering, is_given_up}
use Rattle.rp_base.specs.Sets.{Has}
use Rattle.rp_base.proofs.Members.{has_passing, passes}
use Rattle.rp_base.specs.declared.fault.Fault.{Fault}
use Rattle.rp_base.specs.declared.record.Rec.{Rec}
use Rattle.rp_base.specs.declared.record.Rec.TheVariants.{Started}
use Rattle.rp_base.specs.declared.record.Vote.{Vote}
use Rattle.rp_model.specs.rp_codec.specs.declared.packet.Body.TheVariants.{Nack, Promise}
use Rattle.rp_model.specs.Effect.{Setting, Receive, Lead, running_effect}
use Rattle.rp_model.specs.Leader.{on_promise, on_promise_to, starts_above}
use Rattle.rp_model.specs.Node.{running_node}
use Rattle.rp_model.specs.Parts.{Running, Turn}
use Rattle.rp_model.specs.Plans.{turn_of}
use Rattle.rp_model.specs.Receiving.{is_for_node}
use Rattle.rp_model.specs.Says.{says}
use Rattle.rp_model.specs.declared.effect.Dropped.TheVariants.{Foreign}
use Rattle.rp_model.specs.declared.plan.CountedPromise.{CountedPromise}
use Rattle.rp_model.specs.declared.plan.Plan.{Plan}
use Rattle.rp_model.specs.declared.plan.Plan.TheVariants as plans
use Rattle.rp_possible.proofs.Asked.{led_so}
use Rattle.rp_possible.proofs.Tests.{not_below}

ok_same : (a b : Turn) → (let one : Result Turn Fault = Ok a in one) ≡ Ok b → a ≡ b
ok_same a b e = cc

-- the proposals that a refusal leaves
abbrev pub left_by : ℕ → ℕ → ℕ → List Proposal → List Proposal
left_by nodes i b proposals = filter (λ p. not (is_given_up nodes i b p)) proposals

-- what is known after a refusal of a proposal that runs
abbrev pub known_after : ℕ → Running → ℕ → ℕ → ℕ → Running
known_after nodes running i b bound = record running {
  proposals = left_by nodes i b running.proposals;
  refused = greatest_with running.refused bound;
}

module _ {S : Type 0} (s : Setting S) (me from i b bound : ℕ) (records : List Rec) (running : Running) (turn : Turn) (p : Proposal)
    (result : running_effect s me records running (Receive (says from (Nack i b bound) me)) ≡ Ok turn)
    (sender : from ≤ s.config.nodes) (position : i ≤ s.config.max_positions)
    (runs : proposal_at running.proposals i ≡ Some p) (ballot : p.ballot ≡ b) where
  pub refused_so : turn.running ≡ known_after s.config.nodes running i b bound
  refused_so =
      let node = running_node s me records running in
      let for_me : is_for_node s.config me (says from (Nack i b bound) me) ≡ true =
      and_from _ _ (and_from _ _ (eq-eqb me me refl) (not_from_false _ (not_below s.config.nodes from sender))) (not_from_false _ (not_below s.config.max_positions i position)) in
      let plan : (if is_for_node s.config me (says from (Nack i b bound) me) then plans.Yield i b bound else plans.Pass Foreign) ≡ plans.Yield i b bound =
      cond-true (is_for_node s.config me (says from (Nack i b bound) me)) (plans.Yield i b bound) (plans.Pass Foreign) for_me in
      let here : is_in b (proposal_at running.proposals i) ≡ true = ap (is_in b) runs ∙ eq-eqb p.ballot b ballot in
      let known = cond-true (is_in b (proposal_at running.proposals i)) (known_after s.config.nodes running i b bound) running here in
      ap (λ (t : Turn). t.running) (sym (ok_same _ turn result)) ∙ ap (λ (q : Plan). (turn_of node q).running) plan ∙ known

-- ---- the proposals that are left

stays_if : (nodes i b : ℕ) (q : Proposal) → q.position ≢ i → ¬ ((q.ballot ≡ b) × (is_gathering nodes q ≡ true)) → not (is_given_up nodes i b q) ≡ true
stays_if nodes i b q elsewhere other =
    let both = nat_eq q.ballot b && is_gathering nodes q in
    let not_both : both ≡ false = elim (cases_Bool both) [
      | inl both_are ↦ let parts = and_parts (nat_eq q.ballot b) (is_gathering nodes q) both_are in absurd (other (eqb-true q.ballot b parts.0, parts.1))
      | inr missing ↦ missing
    ] in
    not_from_false _ (or_from (nat_eq q.position i) both (ne_eqb q.position i elsewhere) not_both)

left_only : (nodes i b : ℕ) (q : Proposal) → not (is_given_up nodes i b q) ≡ true → (q.position ≢ i) × (¬ ((q.ballot ≡ b) × (is_gathering nodes q ≡ true)))
left_only nodes i b q is =
    let parts = or_parts (nat_eq q.position i) (nat_eq q.ballot b && is_gathering nodes q) (not-true _ is) in (
      λ same. both_ways (nat_eq q.position i) parts.0 (eq-eqb q.position i same),
      λ both. both_ways (nat_eq q.ballot b && is_gathering nodes q) parts.1 (and_from _ _ (eq-eqb q.ballot b both.0) both.1),
    )

pub those_left : (nodes i b : ℕ) (proposals : List Proposal) (q : Proposal)
    → Has q (left_by nodes i b proposals) ↔ (Has q proposals × (q.position ≢ i) × (¬ ((q.ballot ≡ b) × (is_gathering nodes q ≡ true))))
those_left nodes i b proposals q = (
  λ has. let both = has_passing (λ p. not (is_given_up nodes i b p)) q proposals has in let parts = left_only nodes i b q both.1 in (both.0, parts.0, parts.1),
  λ are. passes (λ p. not (is_given_up nodes i b p)) q proposals are.0 (stays_if nodes i b q are.1 are.2),
)

pub none_left : (nodes i b : ℕ) (proposals : List Proposal) → proposal_at (left_by nodes i b proposals) i ≡ None
none_left nodes i b [] = refl
none_left nodes i b (q ∷ rest) =
    let test = not (is_given_up nodes i b q) in
    let others = left_by nodes i b rest in
    elim (cases_Bool test) [
      | inl stays ↦
          let elsewhere = (left_only nodes i b q stays).0 in
          ap (λ (l : List Proposal). proposal_at l i) (cond-true test (q ∷ others) others stays)
          ∙ cond-false (nat_eq q.position i) (Some q) (proposal_at others i) (ne_eqb q.position i elsewhere)
          ∙ none_left nodes i b rest
      | inr goes ↦ ap (λ (l : List Proposal). proposal_at l i) (cond-false test (q ∷ others) others goes) ∙ none_left nodes i b rest
    ]

-- ---- a promise that comes later

module _ {S : Type 0} (s : Setting S) (me other i b : ℕ) (records : List Rec) (running : Running) (last : Option Vote) (next : Turn) where
  nothing_sent : proposal_at running.proposals i ≡ None → (mine : Bool)
      → (turn_of (running_node s me records running) (if mine then on_promise (running_node s me records running) (record { from = other; position = i; ballot = b; last = last }) else plans.Pass Foreign)).sent ≡ []
  nothing_sent none true =
      let node = running_node s me records running in
      let promise : CountedPromise = record { from = other; position = i; ballot = b; last = last } in
      ap (λ (o : Option Proposal). (turn_of node (on_promise_to s.config.nodes promise o)).sent) none
  nothing_sent none false = refl

  pub no_offer : proposal_at running.proposals i ≡ None → running_effect s me records running (Receive (says other (Promise i b last) me)) ≡ Ok next → next.sent ≡ []
  no_offer none result =
      ap (λ (t : Turn). t.sent) (sym (ok_same _ next result)) ∙ nothing_sent none (is_for_node s.config me (says other (Promise i b last) me))

pub no_offer_after : {S : Type 0} (s : Setting S) (me other i b bound : ℕ) (records : List Rec) (running after : Running) (last : Option Vote) (next : Turn)
    → after ≡ known_after s.config.nodes running i b bound → running_effect s me records after (Receive (says other (Promise i b last) me)) ≡ Ok next → next.sent ≡ []
no_offer_after s me other i b bound records running after last next known result =
    let none = ap (λ (r : Running). proposal_at r.proposals i) known ∙ none_left s.config.nodes i b running.proposals in
    no_offer s me other i b records after last next none result

-- ---- the next ballot

pub above : (me floor bound : ℕ) → IsNode me → bound ≤ floor → bound < next_ballot me floor
above me floor bound is_node most = omega (arith, is_node.0, is_node.1, most)

pub leads_above : {S : Type 0} (s : Setting S) (me i b bound c : ℕ) (choice : Option ℕ) (records : List Rec) (running after : Running) (next : Turn)
    → IsNode me → after ≡ known_after s.config.nodes running i b bound → running_effect s me records after (Lead choice) ≡ Ok next → next.written ≡ Some (Started c) → bound < c
leads_above s me i b bound c choice records running after next is_node known result wrote =
    let is = (led_so s me choice records after next result c wrote).0 in
    let refused : after.refused ≡ greatest_with running.refused bound = ap (λ (r : Running). r.refused) known in
    let number : number_of after.refused ≡ max (number_of running.refused) bound = ap number_of refused in
    let floor : bound ≤ starts_above records after = omega (arith, number) in
    subst (λ (x : ℕ). bound < x) (sym is) (above me (starts_above records after) bound is_node floor)
