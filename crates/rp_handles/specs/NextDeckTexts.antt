-- The deck with which a station goes on over new devices.
use Rattle.std.specs.Prelude.{◌≡◌, ℕ, codes, Ok, List, [], ◌∷◌, ◌++◌}
use Rattle.std.specs.Arc.{arc_value}
use Rattle.rp_deck.specs.rp_base.specs.declared.action.Action.TheVariants.{Tick}
use Rattle.rp_deck.specs.rp_base.specs.declared.config.Config.{Config}
use Rattle.rp_deck.specs.rp_object.specs.Image.{objects_image}
use Rattle.rp_deck.specs.rp_object.specs.State.{first_state}
use Rattle.rp_deck.specs.rp_object.specs.Step.{objects_next}
use Rattle.rp_deck.specs.rp_object.specs.declared.program.Declarations.{Declarations}
use Rattle.rp_deck.specs.rp_object.specs.declared.program.Program.{Program}
use Rattle.rp_deck.specs.Deck.{IsRightDeck}
use Rattle.rp_deck.specs.DeckViews.{deck_text}
use Rattle.rp_deck.specs.Meaning.{meaning_of, texts_of}
use Rattle.rp_deck.specs.declared.deck.Deck.{Deck}
use Rattle.rp_deck.specs.declared.deck.Mode.TheVariants.{Script}
use Rattle.rp_deck.specs.rp_deck_declarations.specs.declared.deck_program.DeckProgram.TheVariants.{Objects}
use Rattle.rp_handles.specs.NextLines.{AreNextLines}

-- what a program shows once its clock, which starts at 0, has this time
abbrev pub start_image : Declarations → ℕ → List ℕ
start_image program now = objects_image (objects_next (first_state program) (Tick now))

-- The text means a right deck of this configuration whose objects start as the image shows: each
-- component has that value, nobody waits and no timing event is set, and once the clock has the
-- image's time, the program shows just this image.
pub record StartsAs (config : Config) (image text : List ℕ) : Type 0 where
  pub deck : Deck
  pub meaning : meaning_of Script text ≡ Ok (deck_text deck)
  pub right : IsRightDeck deck
  pub same : deck.config ≡ config
  pub program : Program
  pub objects : deck.program ≡ Objects program
  pub now : ℕ
  pub shows : start_image (arc_value program.declarations) now ≡ image

-- It is a comment with a mark, and then the lines of the deck up to `script`, each component with
-- some first value; and it starts as the image shows.
pub record IsNextDeck (text mark : List ℕ) (config : Config) (image next : List ℕ) : Type 0 where
  pub body : List ℕ
  pub lines : AreNextLines (texts_of text) body
  pub begins : next ≡ (codes "# " ++ mark ++ 10 ∷ []) ++ body
  pub starts : StartsAs config image next
