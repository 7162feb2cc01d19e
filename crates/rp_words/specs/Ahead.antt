-- What is left of a text, line by line.
use Rattle.std.specs.Prelude.{ℕ, ◌≡◌, ◌+◌, List, [], ◌∷◌, length, Option, Some, None}
use Rattle.rp_words.specs.declared.lines.Lines.{Lines}
use Rattle.rp_words.specs.declared.lines.TextLine.{TextLine}
use Rattle.rp_words.specs.Words.{unread}
use Rattle.rp_words.specs.Lines.{lines_of, texts_from, LineText}

-- the bytes of the lines that are still to be read
abbrev pub left : Lines → List ℕ
left lines = lines.rest.now

-- how many lines were read
abbrev pub lines_read : Lines → ℕ
lines_read lines = lines.count

-- the lines with words that are still to be read
abbrev pub ahead : Lines → List LineText
ahead lines = texts_from (lines_read lines + 1) (lines_of (left lines))

-- the number of the line after the last
abbrev pub after_last : Lines → ℕ
after_last lines = lines_read lines + length (lines_of (left lines)) + 1

-- a line that was read
abbrev pub text_of : TextLine → LineText
text_of line = record { number = line.number; first = line.first.now; rest = unread line.words }

-- a line that is first among those ahead and is then read, or none is left
abbrev pub IsNextLine : Option TextLine → List LineText → List LineText → Type 0
IsNextLine (Some line) old new = old ≡ text_of line ∷ new
IsNextLine None old new = old ≡ []
