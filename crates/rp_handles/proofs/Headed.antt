-- A device with a header, and why no node is opened over it.
use Rattle.std.proofs.Common.{◌≡◌, ◌≤◌, ℕ, List, true, false, refl, subst}
use Rattle.rp_requests.specs.rp_base.specs.Number.{IsNode}
use Rattle.rp_deck.specs.declared.deck.Deck.{Deck}
use Rattle.rp_deck_declarations.specs.declared.deck_program.DeckProgram.{DeckProgram}
use Rattle.rp_deck_declarations.specs.declared.deck_program.DeckProgram.TheVariants.{Objects, Tally}
use Rattle.rp_object.specs.declared.program.Program.{Program}
use Rattle.rp_requests.specs.declared.refusal.Refusal.{Refusal}
use Rattle.rp_requests.specs.declared.refusal.Refusal.TheVariants as refusals
use Rattle.rp_handles.specs.DeckNodes.{MeansDeck, OpensNoNode}
use Rattle.rp_handles.specs.Devices.{HasHeader, OpensNoDevice, has_objects, header_text}

-- a node that is not opened is not opened over its device
pub no_device : (text : List ℕ) (number : ℕ) (device : List ℕ) (refusal : Refusal) → OpensNoNode text number refusal → OpensNoDevice text number device refusal
no_device text number device (refusals.Fault fault) why = why
no_device text number device (refusals.ShortAnswer needed) why = why
no_device text number device refusals.BadRequest why = why
no_device text number device refusals.NoObjects why = why
no_device text number device (refusals.LongAnswer needed) why = why
no_device text number device refusals.TooFar why = why
no_device text number device refusals.WrongDevice why = absurd why

objects_of : (program : DeckProgram) → has_objects program ≡ true → (objects : Program) × (program ≡ Objects objects)
objects_of (Objects objects) has = (objects, refl)
objects_of (Tally tally) has = absurd (cc)

tally_of : (program : DeckProgram) → has_objects program ≡ false → (tally : ℕ) × (program ≡ Tally tally)
tally_of (Objects objects) none = absurd (cc)
tally_of (Tally tally) none = (tally, refl)

module _ (text : List ℕ) (number : ℕ) (deck : Deck) (means : MeansDeck text deck) where
  -- the header of a deck's node
  pub one_header : (node : ℕ) (header : List ℕ) → has_objects deck.program ≡ true → node ≡ number → header ≡ header_text node deck.config text → HasHeader text number header
  one_header node header has is made = record {
    deck = deck;
    means = means;
    program = (objects_of deck.program has).0;
    objects = (objects_of deck.program has).1;
    is = subst (λ (n : ℕ). header ≡ header_text n deck.config text) is made;
  }

  -- a tally has none
  pub no_objects : IsNode number × (number ≤ deck.config.nodes) → has_objects deck.program ≡ false → OpensNoNode text number refusals.NoObjects
  no_objects here none = (deck, (tally_of deck.program none).0, means, here, (tally_of deck.program none).1)
