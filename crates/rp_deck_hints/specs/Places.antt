-- The lines of a text and the words of a line, by what is after them, and a text up to a word.
use Rattle.std.specs.Prelude.{ℕ, zero, suc, ◌+◌, ◌-◌, ◌==◌, List, [], take, drop, length}
use Rattle.std.specs.Prelude.{slice_index_or, if◌then◌else◌}
use Rattle.rp_deck.specs.rp_words.specs.LineEnds.{line_end, without_return}
use Rattle.rp_deck.specs.rp_words.specs.Lines.{lines_of}
use Rattle.rp_deck.specs.rp_words.specs.Words.{without_blanks, first_word, after_word}

-- the first line, without its end: a line feed, and the return right before it
abbrev pub first_line : List ℕ → List ℕ
first_line bytes =
    if line_end bytes == length bytes then bytes
    else without_return (take (line_end bytes) bytes)

-- the bytes after the first line, and after this many lines
abbrev pub after_line : List ℕ → List ℕ
after_line bytes = drop (line_end bytes + 1) bytes

abbrev pub after_lines : List ℕ → ℕ → List ℕ
after_lines text zero = text
after_lines text (suc lines) = after_line (after_lines text lines)

-- the bytes of a line after this many words
abbrev pub after_words : List ℕ → ℕ → List ℕ
after_words line zero = line
after_words line (suc words) = after_word (after_words line words)

-- how many bytes are before these, which are the end of them all
abbrev pub length_before : List ℕ → List ℕ → ℕ
length_before all end = length all - length end

-- the line of this number, and where it begins; lines and words are counted from 1
abbrev pub line_at : List ℕ → ℕ → List ℕ
line_at text line = slice_index_or (lines_of text) (line - 1) []

abbrev pub line_start : List ℕ → ℕ → ℕ
line_start text line = length_before text (after_lines text (line - 1))

-- the bytes of a line from the word of this number on, and those after it
abbrev pub from_word : List ℕ → ℕ → List ℕ
from_word line word = without_blanks (after_words line (word - 1))

-- the word of this number of a line of the text
abbrev pub word_at : List ℕ → ℕ → ℕ → List ℕ
word_at text line word = first_word (after_words (line_at text line) (word - 1))

-- the text up to the begin of that word, and up to its end
abbrev pub before_word : List ℕ → ℕ → ℕ → List ℕ
before_word text line word =
    let all = line_at text line in
    take (line_start text line + length_before all (from_word all word)) text

abbrev pub through_word : List ℕ → ℕ → ℕ → List ℕ
through_word text line word =
    let all = line_at text line in
    take (line_start text line + length_before all (after_words all word)) text
