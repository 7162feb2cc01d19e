-- The decks of which the laws speak.
use Rattle.std.specs.Prelude.{◌≡◌}
use Rattle.rp_deck.specs.Deck.{IsRightDeck}
use Rattle.rp_deck.specs.declared.deck.Deck.{Deck}
use Rattle.rp_deck.specs.rp_deck_declarations.specs.declared.deck_program.DeckProgram.TheVariants.{Objects}
use Rattle.rp_object.specs.declared.program.Program.{Program}

-- A right deck of protected objects, whose program this is.
pub record IsDeckOfObjects (deck : Deck) (program : Program) : Type 0 where
  pub right : IsRightDeck deck
  pub objects : deck.program ≡ Objects program
