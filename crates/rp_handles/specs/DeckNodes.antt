-- The result of opening a node of a deck.
use Rattle.std.specs.Prelude.{◌≡◌, ◌≤◌, ℕ, Ok, Err, List}
use Rattle.std.specs.Arc.{arc_value}
use Rattle.rp_requests.specs.rp_base.specs.Number.{IsNode}
use Rattle.rp_requests.specs.rp_base.specs.declared.fault.Fault.TheVariants as faults
use Rattle.rp_deck.specs.Deck.{IsRightDeck}
use Rattle.rp_deck.specs.DeckViews.{deck_text}
use Rattle.rp_deck.specs.Meaning.{meaning_of}
use Rattle.rp_deck.specs.declared.deck.Deck.{Deck}
use Rattle.rp_deck.specs.declared.deck.Mode.TheVariants.{Script}
use Rattle.rp_deck_declarations.specs.declared.deck_program.DeckProgram.TheVariants.{Objects}
use Rattle.rp_deck_declarations.specs.declared.deck_program.DeckProgram.TheVariants.{Tally}
use Rattle.rp_object.specs.State.{Running, first_state}
use Rattle.rp_object.specs.declared.program.Program.{Program}
use Rattle.rp_requests.specs.Nodes.{NodeState}
use Rattle.rp_requests.specs.Opening.{IsOpenedNode}
use Rattle.rp_requests.specs.declared.refusal.Refusal.{Refusal}
use Rattle.rp_requests.specs.declared.refusal.Refusal.TheVariants as refusals

-- The bytes mean this deck, which is right.
pub record MeansDeck (bytes : List ℕ) (deck : Deck) : Type 0 where
  pub meaning : meaning_of Script bytes ≡ Ok (deck_text deck)
  pub right : IsRightDeck deck

-- The bytes mean a deck of protected objects, and the node runs its program with the whole records
-- at the front of the device's bytes.
pub record OpensNode (text : List ℕ) (number : ℕ) (bytes : List ℕ) (node : NodeState Running)
    (records kept : ℕ) : Type 0 where
  pub deck : Deck
  pub means : MeansDeck text deck
  pub program : Program
  pub objects : deck.program ≡ Objects program
  pub opens : IsOpenedNode number deck.config (first_state (arc_value program.declarations)) bytes
      node records kept

-- Why bytes mean no deck: the first bad line and its first reason; or memory ran out.
abbrev pub IsNoDeck : List ℕ → Refusal → Type 0
IsNoDeck text (refusals.Fault faults.OutOfMemory) = Unit {0}
IsNoDeck text (refusals.Fault (faults.BadDeck line reason)) =
    meaning_of Script text ≡ Err (record { line = line; reason = reason })
IsNoDeck text _ = ⊥

-- Why a node is not opened: the bytes mean no deck, or a deck without a node of this number, or the
-- deck of a tally with such a node; or memory ran out.
abbrev pub OpensNoNode : List ℕ → ℕ → Refusal → Type 0
OpensNoNode text number (refusals.Fault faults.BadConfig) =
    (deck : Deck) × MeansDeck text deck × (¬ (IsNode number × (number ≤ deck.config.nodes)))
OpensNoNode text number refusals.NoObjects =
    (deck : Deck) × (tally : ℕ) × MeansDeck text deck
    × (IsNode number × (number ≤ deck.config.nodes)) × (deck.program ≡ Tally tally)
OpensNoNode text number refusal = IsNoDeck text refusal
