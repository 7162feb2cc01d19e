-- A node whose proposal was refused leads again at its position, which is its least free one.
use Rattle.std.proofs.Common.{◌≡◌, ℕ, ◌<◌, ◌^◌, Bool, false, cond, None, Result, Ok, Err, List, [], ◌∷◌, inl, inr, refl, sym, ap, ◌∙◌, arith, eq-eqb, eqb-true, max}
use Rattle.std.specs.Prelude.{nat_eq, not, ◌&&◌, ◌||◌, is_some}
use Rattle.std.proofs.lemmas.Bool.{cases_Bool, cond-false, both_ways, lt-leb}
use Rattle.rp_base.specs.Ballot.{next_ballot, number_of, round_of}
use Rattle.rp_base.specs.Number.{IsNode}
use Rattle.rp_base.specs.Proposals.{Proposal, proposal_at, without_proposal, is_gathering, is_given_up}
use Rattle.rp_base.specs.Records.{learned_at}
use Rattle.rp_base.specs.Sets.{Has}
use Rattle.rp_base.specs.declared.fault.Fault.{Fault}
use Rattle.rp_base.specs.declared.fault.Fault.TheVariants.{BallotsSpent, LogFull}
use Rattle.rp_base.specs.declared.record.Rec.{Rec}
use Rattle.rp_model.specs.Effect.{Setting, Lead, running_effect, turn_if}
use Rattle.rp_model.specs.Leader.{least_free, is_out_of_reach, starts_above, leads_at, is_exhausted}
use Rattle.rp_model.specs.Node.{RunningNode, running_node, own_for}
use Rattle.rp_model.specs.Parts.{Running, Turn}
use Rattle.rp_model.specs.Plans.{turn_of}
use Rattle.rp_model.specs.declared.effect.Dropped.TheVariants.{No}
use Rattle.rp_model.specs.declared.plan.Plan.{Plan}
use Rattle.rp_model.specs.declared.plan.Plan.TheVariants as plans
use Rattle.rp_possible.proofs.Refused.{known_after, left_by, none_left, above}

-- the ballot is that of the proposal at the position alone
abbrev pub IsAlone : ℕ → ℕ → List Proposal → Type 0
IsAlone i b proposals = (q : Proposal) → Has q proposals → q.ballot ≡ b → q.position ≡ i

same_test : (nodes i b : ℕ) (q : Proposal) → (q.ballot ≡ b → q.position ≡ i) → not (is_given_up nodes i b q) ≡ not (nat_eq q.position i)
same_test nodes i b q alone =
    let gathers = is_gathering nodes q in
    let given : Bool → Bool → Bool = λ x y. not (x || (y && gathers)) in
    elim (cases_Bool (nat_eq q.position i)) [
      | inl here ↦ ap (λ (x : Bool). given x (nat_eq q.ballot b)) here ∙ sym (ap not here)
      | inr elsewhere ↦ elim (cases_Bool (nat_eq q.ballot b)) [
        | inl in_it ↦ absurd (both_ways (nat_eq q.position i) (elsewhere) (eq-eqb q.position i (alone (eqb-true q.ballot b in_it))))
        | inr other ↦ ap (λ (x : Bool). given x (nat_eq q.ballot b)) elsewhere ∙ ap (given false) other ∙ sym (ap not elsewhere)
      ]
    ]

-- a refusal leaves the proposals at other positions
left_without : (nodes i b : ℕ) (proposals : List Proposal) → IsAlone i b proposals → left_by nodes i b proposals ≡ without_proposal proposals i
left_without nodes i b [] alone = refl
left_without nodes i b (q ∷ rest) alone =
    let others = without_proposal rest i in
    ap (λ (l : List Proposal). cond (not (is_given_up nodes i b q)) (q ∷ l) l) (left_without nodes i b rest (λ r later. alone r (inr later)))
    ∙ ap (λ (x : Bool). cond x (q ∷ others) others) (same_test nodes i b q (alone q (inl refl)))

module _ {S : Type 0} (s : Setting S) (me i b bound : ℕ) (records : List Rec) (running after : Running) (known : after ≡ known_after s.config.nodes running i b bound) (alone : IsAlone i b running.proposals)
    (least : least_free s.config.nodes records (without_proposal running.proposals i) ≡ i) (unlearned : learned_at records i ≡ None) (near : is_out_of_reach s.config.max_positions records i ≡ false) where
  abbrev node : RunningNode S
  node = running_node s me records after

  abbrev pub ballot : ℕ
  ballot = next_ballot me (starts_above records after)

  abbrev pub turn : Turn
  turn = turn_of node (plans.Lead i ballot (own_for node i))

  proposals_are : after.proposals ≡ without_proposal running.proposals i
  proposals_are = ap (λ (r : Running). r.proposals) known ∙ left_without s.config.nodes i b running.proposals alone

  chosen : least_free s.config.nodes records after.proposals ≡ i
  chosen = ap (least_free s.config.nodes records) proposals_are ∙ least

  none_runs : proposal_at after.proposals i ≡ None
  none_runs = ap (λ (r : Running). proposal_at r.proposals i) known ∙ none_left s.config.nodes i b running.proposals

  pub leads_again : round_of ballot < 2 ^ 32 → running_effect s me records after (Lead None) ≡ Ok turn
  leads_again left =
      let at : ℕ → Result Plan Fault =
      λ j. cond {A = Result Plan Fault} (is_some (learned_at records j)) (Ok (plans.Pass No)) (cond (is_out_of_reach s.config.max_positions records j) (Err LogFull) (leads_at node j (proposal_at after.proposals j))) in
      let begins : Result Plan Fault = Ok (plans.Lead i ballot (own_for node i)) in
      let plan : at (least_free s.config.nodes records after.proposals) ≡ begins =
      ap at chosen
      ∙ cond-false (is_some (learned_at records i)) (Ok (plans.Pass No)) (cond (is_out_of_reach s.config.max_positions records i) (Err LogFull) (leads_at node i (proposal_at after.proposals i))) (ap is_some unlearned)
      ∙ cond-false (is_out_of_reach s.config.max_positions records i) (Err LogFull) (leads_at node i (proposal_at after.proposals i)) near
      ∙ ap (leads_at node i) none_runs
      ∙ cond-false (is_exhausted node) (Err BallotsSpent) begins (lt-leb (2 ^ 32) (round_of ballot) left) in
      ap (turn_if node) plan

  pub is_above : IsNode me → bound < ballot
  is_above is_node =
      let number : number_of after.refused ≡ max (number_of running.refused) bound = ap (λ (r : Running). number_of r.refused) known in
      above me (starts_above records after) bound is_node (omega (arith, number))
