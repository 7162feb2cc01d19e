-- What refuses a step of a node only refuses that it leads, unless the node is stopped or memory ran out.
use Rattle.std.proofs.Common.{◌≡◌, ◌⊎◌, ℕ, ◌^◌, Bool, true, false, Option, Some, None, Result, Ok, Err, List, inl, inr, refl, sym, subst, nat_le, is_some, if◌then◌else◌}
use Rattle.rp_base.specs.Ballot.{next_ballot, round_of}
use Rattle.rp_base.specs.Proposals.{Proposal, proposal_at, is_prepared}
use Rattle.rp_base.specs.Records.{learned_at}
use Rattle.rp_base.specs.declared.fault.PacketReason.{PacketReason}
use Rattle.rp_base.specs.declared.record.Rec.{Rec}
use Rattle.rp_base.specs.declared.fault.Fault.{Fault}
use Rattle.rp_base.specs.declared.fault.Fault.TheVariants.{BallotsSpent, Failed, LogFull, OutOfMemory}
use Rattle.rp_codec.specs.Message.{Message}
use Rattle.rp_codec.specs.Reading.{all_of}
use Rattle.rp_replica.specs.rp_model.specs.Effect.{Setting, Done, NodeInput, Receive, Lead, LeadRange, Ask, turn_done_if, effect_while, running_effect}
use Rattle.rp_replica.specs.rp_model.specs.Effect.{plan_of, turn_if}
use Rattle.rp_replica.specs.rp_model.specs.Node.{RunningNode, running_node}
use Rattle.rp_replica.specs.rp_model.specs.declared.plan.Plan.{Plan}
use Rattle.rp_replica.specs.rp_model.proofs.EveryPlan.{plan_refused}
use Rattle.std.specs.Prelude.{IfErr}
use Rattle.rp_replica.specs.rp_model.specs.Parts.{NodePart, Running, Turn}
use Rattle.rp_replica.specs.rp_rules.specs.declared.input.Input.{Input}
use Rattle.rp_replica.specs.rp_rules.specs.declared.input.Input.TheVariants as inputs
use Rattle.rp_replica.specs.rp_rules.specs.Inputs.{given_by, packet_given}
use Rattle.rp_boxes.specs.NodeSeats.{IsReason}
use Rattle.rp_threads.specs.Loops.{is_refusal}
use Rattle.rp_threads.specs.Turns.{IsReceipt}

-- no range is to be led, and no node to be asked
abbrev pub IsNoRange : NodeInput → Type 0
IsNoRange (LeadRange first count) = ⊥
IsNoRange (Ask to) = ⊥
IsNoRange _ = Unit {0}

abbrev pub GivesNoRange : Input → Type 0
GivesNoRange input = (given : NodeInput) → given_by input ≡ Ok given → IsNoRange given

packet_no_range : (read : Result Message PacketReason) (given : NodeInput) → packet_given read ≡ Ok given → IsNoRange given
packet_no_range (Ok message) given is = let e : Receive message ≡ given = cc in subst IsNoRange e tt
packet_no_range (Err reason) given is = absurd (cc)

pub receipt_no_range : (text : List ℕ) (input : Input) → IsReceipt text input → GivesNoRange input
receipt_no_range text (inputs.Receive bytes) is = λ given gives. packet_no_range (all_of bytes.now) given gives
receipt_no_range text _ is = absurd is

pub lead_no_range : (choice : Option ℕ) (input : Input) → input ≡ inputs.Lead choice → GivesNoRange input
lead_no_range choice input is = subst GivesNoRange (sym is) (λ given gives. let e : Lead choice ≡ given = cc in subst IsNoRange e tt)

turned_refused : (node : NodePart) (turn : Result Turn Fault) (fault : Fault) → turn_done_if node turn ≡ Err fault → turn ≡ Err fault
turned_refused node (Ok turn) fault is = absurd (cc)
turned_refused node (Err other) fault is = cc

module _ {S : Type 0} (s : Setting S) (me : ℕ) (node : NodePart) where
  planned_refused : (known : RunningNode S) (found : Result Plan Fault) (fault : Fault) → IfErr found (λ f. is_refusal f ≡ true) → turn_if known found ≡ Err fault → is_refusal fault ≡ true
  planned_refused known (Ok plan) fault refused is = absurd (cc)
  planned_refused known (Err other) fault refused is = let e : other ≡ fault = cc in subst (λ (f : Fault). is_refusal f ≡ true) e refused

  running_refused : (input : NodeInput) (running : Running) (fault : Fault) → IsNoRange input → running_effect s me node.records running input ≡ Err fault → is_refusal fault ≡ true
  running_refused input running fault none is =
      let known = running_node s me node.records running in
      planned_refused known (plan_of known input) fault
      (plan_refused known input (λ f. is_refusal f ≡ true) refl refl (λ to same. absurd (subst IsNoRange same none)) (λ first count same. absurd (subst IsNoRange same none))) is

  refused_by : (input : NodeInput) (running : Running) (effect : Result (Done NodePart) Fault) (fault : Fault) → IsNoRange input → effect_while s me node input (Some running) ≡ effect
      → IsReason (Some running) effect fault → (fault ≡ OutOfMemory) ⊎ (is_refusal fault ≡ true)
  refused_by input running (Ok done) fault none is why = inl why
  refused_by input running (Err refusal) fault none is why =
      inr (subst (λ (f : Fault). is_refusal f ≡ true) (sym why) (running_refused input running refusal none (turned_refused node (running_effect s me node.records running input) refusal is)))

  -- a step that is not made: the node is stopped, memory ran out, or it only refuses that the node leads
  pub reason : (input : NodeInput) (running : Option Running) (fault : Fault) → IsNoRange input → IsReason running (effect_while s me node input running) fault
      → ((fault ≡ Failed) × (running ≡ None)) ⊎ ((fault ≡ OutOfMemory) ⊎ (is_refusal fault ≡ true))
  reason input None fault none why = inl (why, refl)
  reason input (Some running) fault none why = inr (refused_by input running (effect_while s me node input (Some running)) fault none refl why)
