-- The meaning of the bytes that a reader gives: a deck, or the first bad line and its first reason.
use Rattle.std.specs.Prelude.{◌≡◌, ◌≤◌, ℕ, Option, Result, Ok, Err, List, IfSome, length}
use Rattle.rp_deck.specs.rp_base.specs.declared.fault.Fault.{Fault}
use Rattle.rp_deck.specs.rp_base.specs.declared.fault.Fault.TheVariants.{BadDeck}
use Rattle.rp_deck.specs.Deck.{IsRightDeck}
use Rattle.rp_deck.specs.DeckViews.{deck_text}
use Rattle.rp_deck.specs.rp_words.specs.LineFaults.{BadLine}
use Rattle.rp_deck.specs.Meaning.{DeckText, meaning_of}
use Rattle.rp_deck.specs.declared.deck.Deck.{Deck}
use Rattle.rp_deck.specs.declared.deck.Mode.{Mode}
use Rattle.rp_script.specs.Faults.{IsBadDeck, IsProgramFault}

-- the most bytes that a deck may have
abbrev pub most_bytes : ℕ
most_bytes = 1048576

-- some bytes, no more than a deck may have, and all that the reader gives, if it is known what it
-- gives
pub record AreGiven (given : Option (List ℕ)) (bytes : List ℕ) : Type 0 where
  pub all : IfSome given (λ whole. bytes ≡ whole)
  pub short : length bytes ≤ most_bytes

-- Some bytes, no more than a deck may have, mean this in a mode, and they are all that the reader
-- gives, if it is known what it gives.
pub record Means (mode : Mode) (given : Option (List ℕ)) (meaning : Result DeckText BadLine)
    : Type 0 where
  pub bytes : List ℕ
  pub all : IfSome given (λ whole. bytes ≡ whole)
  pub short : length bytes ≤ most_bytes
  pub meaning_is : meaning_of mode bytes ≡ meaning

-- they mean this deck, which is right
pub record MeansDeck (mode : Mode) (given : Option (List ℕ)) (deck : Deck) : Type 0 where
  pub right : IsRightDeck deck
  pub meant : Means mode given (Ok (deck_text deck))

-- the line and the reason of a bad deck are the first bad line of these bytes and the first reason
-- on it
abbrev pub IsMeant : Mode → Option (List ℕ) → Fault → Type 0
IsMeant mode given (BadDeck line reason) =
    Means mode given (Err (record { line = line; reason = reason }))
IsMeant mode given _ = Unit {0}

-- The fault of a run of the deck that these bytes mean. If they mean none, it has the first bad
-- line and the first reason on it, and nothing was written.
pub record FailsRun (mode : Mode) (given output output_after : Option (List ℕ)) (fault : Fault)
    : Type 0 where
  pub meant : IsMeant mode given fault
  pub unwritten : IsBadDeck fault → output_after ≡ output
  pub known : IsProgramFault fault
