-- The run of the deck of an outcome.
use Rattle.std.specs.Prelude.{◌≡◌, ◌⊎◌, ◌<◌, ◌^◌, ℕ, false, IsTrue, List, Ok, Err, length}
use Rattle.rp_script.specs.rp_deck.specs.Deck.{IsRightDeck}
use Rattle.rp_script.specs.rp_deck.specs.DeckViews.{deck_text}
use Rattle.rp_script.specs.rp_deck.specs.Meaning.{meaning_of}
use Rattle.rp_script.specs.rp_deck.specs.declared.deck.Deck.{Deck}
use Rattle.rp_script.specs.rp_deck.specs.declared.deck.Mode.TheVariants.{Script}
use Rattle.rp_script.specs.rp_deck.specs.rp_words.specs.LineFaults.{BadLine}
use Rattle.rp_explore_run.specs.Wanted.{is_shown}
use Rattle.rp_explore_run.specs.declared.wanted.Wanted.{Wanted}
use Rattle.rp_script.specs.Output.{output_of}

-- the text means this deck, which is right
pub record IsDeckText (text : List ℕ) (deck : Deck) : Type 0 where
  pub right : IsRightDeck deck
  pub meaning : meaning_of Script text ≡ Ok (deck_text deck)

-- the text is a deck, and this is what its script prints
pub record IsOutputOf (text output : List ℕ) : Type 0 where
  pub deck : Deck
  pub is_text : IsDeckText text deck
  pub output_is : output ≡ output_of false deck

-- the text is a deck, and its script prints what is wanted
pub record ShowsWhenRun (text : List ℕ) (wanted : Wanted) : Type 0 where
  pub output : List ℕ
  pub ran : IsOutputOf text output
  pub shown : IsTrue (is_shown wanted output)

-- the text is no deck: it is longer than a deck may be, or it has a bad line
abbrev pub IsNoDeck : List ℕ → Type 0
IsNoDeck text = (2 ^ 20 < length text) ⊎ ((bad : BadLine) × (meaning_of Script text ≡ Err bad))

-- the text is a deck, and its script does not print what is wanted
pub record HidesIt (text : List ℕ) (wanted : Wanted) : Type 0 where
  pub output : List ℕ
  pub ran : IsOutputOf text output
  pub hidden : is_shown wanted output ≡ false

-- the run of the text does not show what is wanted
abbrev pub HidesWhenRun : List ℕ → Wanted → Type 0
HidesWhenRun text wanted = IsNoDeck text ⊎ HidesIt text wanted
