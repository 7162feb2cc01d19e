-- What the text of a deck means: a deck, or the first bad line and its first reason.
use Rattle.std.specs.Prelude.{ℕ, ◌+◌, List, length, Result, Ok}
use Rattle.rp_words.specs.LineFaults.{BadLine}
use Rattle.rp_words.specs.Lines.{LineText, lines_of, texts_from}
use Rattle.rp_words.specs.Reading.{◌>>=◌}
use Rattle.rp_deck_declarations.specs.DeclaredTexts.{DeclaredText, declared_of}
use Rattle.rp_deck_declarations.specs.Declaring.{declarations_of}
use Rattle.rp_deck_declarations.specs.Drafts.{DraftText}
use Rattle.rp_deck_declarations.specs.ScriptNames.{declared_names}
use Rattle.rp_deck.specs.declared.deck.Mode.{Mode}
use Rattle.rp_deck.specs.ScriptLines.{LineCommand, script_of}

-- a deck: what it declares, and its script
pub record DeckText : Type 0 where
  pub declared : DeclaredText
  pub script : List LineCommand

abbrev pub deck_of : DraftText → List LineCommand → DeckText
deck_of d script = record { declared = declared_of d; script = script }

-- the lines of a text that hold words, and the number of the line after the last
abbrev pub texts_of : List ℕ → List LineText
texts_of text = texts_from 1 (lines_of text)

abbrev pub line_after : List ℕ → ℕ
line_after text = length (lines_of text) + 1

-- what a text means that is run in a mode
unfoldable pub meaning_of : Mode → List ℕ → Result DeckText BadLine
meaning_of mode text = do
  read ← declarations_of (line_after text) (texts_of text)
  script ← script_of mode (declared_names read.0) read.1
  Ok (deck_of read.0 script)
