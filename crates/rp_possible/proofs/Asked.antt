-- What goes to all nodes, and what a node sends that leads.
use Rattle.std.proofs.Common.{◌≡◌, ℕ, suc, zero, ◌≤◌, Bool, true, false, if◌then◌else◌, Option, Some, None, Result, Ok, Err, List, [], ◌∷◌, inl, inr, refl, sym, ap, subst, arith}
use Rattle.std.specs.Prelude.{is_some}
use Rattle.rp_base.specs.Proposals.{Proposal, proposal_at, is_prepared}
use Rattle.rp_base.specs.Promises.{offer_of}
use Rattle.rp_base.specs.Records.{learned_at}
use Rattle.rp_base.specs.Sets.{Has}
use Rattle.rp_base.proofs.Members.{has_split, has_mapped, mapped_has}
use Rattle.rp_base.specs.declared.fault.Fault.{Fault}
use Rattle.rp_base.specs.declared.fault.Fault.TheVariants.{BallotsSpent, LogFull}
use Rattle.rp_base.specs.declared.record.Rec.{Rec}
use Rattle.rp_base.specs.declared.record.Rec.TheVariants.{Started}
use Rattle.rp_model.specs.rp_codec.specs.Message.{Message}
use Rattle.rp_model.specs.rp_codec.specs.declared.packet.Body.{Body}
use Rattle.rp_model.specs.rp_codec.specs.declared.packet.Body.TheVariants.{Prepare}
use Rattle.rp_model.specs.rp_machine.specs.Replay.{one_to}
use Rattle.rp_model.specs.Effect.{Setting, Lead, running_effect, turn_if}
use Rattle.rp_model.specs.Leader.{on_lead, leads_at, begins_if, is_exhausted, is_out_of_reach, ballot_of, chosen_position}
use Rattle.rp_model.specs.Node.{RunningNode, running_node, nodes_of, own_for}
use Rattle.rp_model.specs.Parts.{Running, Turn}
use Rattle.rp_model.specs.Plans.{turn_of, started_running}
use Rattle.rp_model.specs.Says.{says, says_to_all}
use Rattle.rp_model.specs.declared.effect.Dropped.TheVariants.{No}
use Rattle.rp_model.specs.declared.plan.Plan.{Plan}
use Rattle.rp_model.specs.declared.plan.Plan.TheVariants as plans
use Rattle.rp_possible.proofs.Cases.{one_to_has}

-- ---- to all nodes

in_one_to : (n k : ℕ) → Has k (one_to n) → (1 ≤ k) × (k ≤ n)
in_one_to zero k has = absurd has
in_one_to (suc n) k has =
    elim (has_split k (one_to n) (suc n ∷ []) has) [
      | inl before ↦ let rest = in_one_to n k before in (rest.0, omega (arith, rest.1))
      | inr last ↦ elim last [ inl same ↦ (omega (arith, same), omega (arith, same)) | inr none ↦ absurd none ]
    ]

pub goes_to : (nodes me : ℕ) (body : Body) (k : ℕ) → 1 ≤ k → k ≤ nodes → Has (says me body k) (says_to_all nodes me body)
goes_to nodes me body k low high = has_mapped (says me body) k (one_to nodes) (one_to_has nodes k low high)

pub goes_only : (nodes me : ℕ) (body : Body) (m : Message) → Has m (says_to_all nodes me body) → (k : ℕ) × (1 ≤ k) × (k ≤ nodes) × (m ≡ says me body k)
goes_only nodes me body m has =
    let from = mapped_has (says me body) m (one_to nodes) has in
    let within = in_one_to nodes from.0 from.1 in
    (from.0, within.0, within.1, from.2)

-- ---- a turn is that of a plan

ok_same : (a b : Turn) → (let one : Result Turn Fault = Ok a in one) ≡ Ok b → a ≡ b
ok_same a b e = cc

pub of_plan : {S : Type 0} (node : RunningNode S) (r : Result Plan Fault) (turn : Turn) → turn_if node r ≡ Ok turn → (plan : Plan) × (r ≡ Ok plan) × (turn_of node plan ≡ turn)
of_plan node (Ok plan) turn is = (plan, refl, ok_same (turn_of node plan) turn is)
of_plan node (Err fault) turn is = absurd (cc)

-- ---- a node that leads

started_same : {b c : ℕ} → (let one : Option Rec = Some (Started b) in one) ≡ Some (Started c) → b ≡ c
started_same e = cc

module _ {S : Type 0} (node : RunningNode S) (i : ℕ) where
  -- a turn that starts a ballot starts the node's next one, asks each node for a promise at the position, and begins a proposal there
  abbrev Asks : Turn → Type 0
  Asks turn = (b : ℕ) → turn.written ≡ Some (Started b)
      → (b ≡ ballot_of node) × ((k : ℕ) → 1 ≤ k → k ≤ nodes_of node → Has (says node.me (Prepare i b) k) turn.sent)
      × (turn.running ≡ started_running node.running i b (own_for node i))

  abbrev AsksIf : Result Plan Fault → Type 0
  AsksIf (Ok plan) = Asks (turn_of node plan)
  AsksIf (Err fault) = Unit {0}

  silent_asks : (turn : Turn) → turn.written ≡ None → Asks turn
  silent_asks turn none b wrote = absurd (cc)

  lead_asks : Asks (turn_of node (plans.Lead i (ballot_of node) (own_for node i)))
  lead_asks b wrote =
      let same : ballot_of node ≡ b = started_same wrote in (
        sym same,
        λ k low high. subst (λ (c : ℕ). Has (says node.me (Prepare i c) k) (says_to_all (nodes_of node) node.me (Prepare i (ballot_of node)))) same (goes_to (nodes_of node) node.me (Prepare i (ballot_of node)) k low high),
        ap (λ (c : ℕ). started_running node.running i c (own_for node i)) same,
      )

  begins_asks : (spent : Bool) → AsksIf (if spent then Err BallotsSpent else Ok (plans.Lead i (ballot_of node) (own_for node i)))
  begins_asks true = tt
  begins_asks false = lead_asks

  prepared_asks : (p : Proposal) (prepared : Bool) → AsksIf (if prepared then Ok (plans.OfferPrepared i p.ballot (offer_of (Some (own_for node i)) p.promises)) else begins_if node i)
  prepared_asks p true = silent_asks (turn_of node (plans.OfferPrepared i p.ballot (offer_of (Some (own_for node i)) p.promises))) refl
  prepared_asks p false = begins_asks (is_exhausted node)

  leads_asks : (proposal : Option Proposal) → AsksIf (leads_at node i proposal)
  leads_asks None = begins_asks (is_exhausted node)
  leads_asks (Some p) = prepared_asks p (is_prepared (nodes_of node) p)

  reached_asks : (beyond : Bool) → AsksIf (if beyond then Err LogFull else leads_at node i (proposal_at node.running.proposals i))
  reached_asks true = tt
  reached_asks false = leads_asks (proposal_at node.running.proposals i)

  chosen_asks : (learned : Bool) → AsksIf (if learned then Ok (plans.Pass No) else if is_out_of_reach node.setting.config.max_positions node.records i then Err LogFull else leads_at node i (proposal_at node.running.proposals i))
  chosen_asks true = silent_asks (turn_of node (plans.Pass No)) refl
  chosen_asks false = reached_asks (is_out_of_reach node.setting.config.max_positions node.records i)

-- what leading results in
pub led_so : {S : Type 0} (s : Setting S) (me : ℕ) (choice : Option ℕ) (records : List Rec) (running : Running) (turn : Turn)
    → running_effect s me records running (Lead choice) ≡ Ok turn
    → Asks (running_node s me records running) (chosen_position s.config.nodes records running choice) turn
led_so s me choice records running turn result =
    let node = running_node s me records running in
    let i = chosen_position s.config.nodes records running choice in
    let plan = of_plan node (on_lead node choice) turn result in
    let asks : AsksIf node i (on_lead node choice) = chosen_asks node i (is_some (learned_at records i)) in
    subst (Asks node i) plan.2 (subst (AsksIf node i) plan.1 asks)
