-- A node of a deck that is opened, or not.
use Rattle.std.proofs.Common.{◌≡◌, ◌≤◌, ℕ, List, Result, Ok, Err, IfOk, IfErr, sym, subst}
use Rattle.std.specs.Result.{IsErrAnd}
use Rattle.std.specs.Arc.{arc_value}
use Rattle.rp_requests.specs.rp_base.specs.Number.{IsNode}
use Rattle.rp_requests.specs.rp_base.specs.declared.fault.Fault.TheVariants as faults
use Rattle.rp_deck.specs.declared.deck.Deck.{Deck}
use Rattle.rp_deck_declarations.specs.declared.deck_program.DeckProgram.TheVariants.{Objects}
use Rattle.rp_object.specs.State.{Running, first_state}
use Rattle.rp_object.specs.declared.program.Program.{Program}
use Rattle.rp_requests.specs.Nodes.{NodeState}
use Rattle.rp_requests.specs.Opening.{IsOpenedNode}
use Rattle.rp_requests.specs.declared.refusal.Refusal.{Refusal}
use Rattle.rp_requests.specs.declared.refusal.Refusal.TheVariants as refusals
use Rattle.rp_handles.specs.DeckNodes.{MeansDeck, OpensNode, OpensNoNode}

-- the deck has no node of this number
pub no_node : (text : List ℕ) (number : ℕ) (deck : Deck) (refusal : Refusal) → MeansDeck text deck
    → (refusal ≡ refusals.Fault faults.BadConfig) × (¬ (IsNode number × (number ≤ deck.config.nodes)))
    → OpensNoNode text number refusal
no_node text number deck refusal means why = subst (OpensNoNode text number) (sym why.0) (deck, means, why.1)

-- a node that was opened with the deck's program and configuration is one of the deck
pub one_node : (text : List ℕ) (number : ℕ) (bytes : List ℕ) (deck : Deck) (program : Program) (me : ℕ)
    (node : NodeState Running) (records kept : ℕ) → MeansDeck text deck → deck.program ≡ Objects program → me ≡ number
    → IsOpenedNode me deck.config (first_state (arc_value program.declarations)) bytes node records kept
    → OpensNode text number bytes node records kept
one_node text number bytes deck program me node records kept means objects is opened = record {
  deck = deck;
  means = means;
  program = program;
  objects = objects;
  opens = subst (λ (n : ℕ). IsOpenedNode n deck.config (first_state (arc_value program.declarations)) bytes node records kept) is opened;
}

-- what holds of each value at `Ok`
pub each_ok : {X E : Type 0} (r : Result X E) (P Q : X → Type 0) → ((x : X) → P x → Q x) → IfOk r P → IfOk r Q
each_ok (Ok x) P Q goes holds = goes x holds
each_ok (Err e) P Q goes holds = tt

-- what holds of the one value at `Err`
pub at_err : {X E : Type 0} (P : E → Type 0) (e : E) (r : Result X E) → IsErrAnd r (λ y. y ≡ e) → P e → IfErr r P
at_err P e (Err y) is holds = subst P (sym is) holds
at_err P e (Ok x) is holds = tt
