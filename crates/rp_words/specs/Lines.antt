-- The lines of a text.
use Rattle.std.specs.Prelude.{ℕ, ◌+◌, ◌==◌, ◌||◌, ◌&&◌, Bool, List, [], ◌∷◌, ◌++◌, Option, Some}
use Rattle.std.specs.Prelude.{None, option_to_list, if◌then◌else◌}
use Rattle.rp_words.specs.Words.{begins_with, is_at_end, first_word, after_word}

abbrev pub is_line_feed : ℕ → Bool
is_line_feed byte = byte == 10

-- one byte more in front of the first line
abbrev pub in_front : ℕ → List (List ℕ) → List (List ℕ)
in_front byte [] = (byte ∷ []) ∷ []
in_front byte (line ∷ lines) = (byte ∷ line) ∷ lines

-- The lines: each ends by a line feed, which the last one may lack. A return right before it is
-- dropped.
abbrev pub lines_of : List ℕ → List (List ℕ)
lines_of [] = []
lines_of (byte ∷ rest) =
    if is_line_feed byte then [] ∷ lines_of rest
    else if byte == 13 && begins_with is_line_feed rest then lines_of rest
    else in_front byte (lines_of rest)

-- a line that holds words: its number, its first word, and the bytes after that
pub record LineText : Type 0 where
  pub number : ℕ
  pub first : List ℕ
  pub rest : List ℕ

-- a line without words, or a comment
abbrev pub is_skipped : List ℕ → Bool
is_skipped line = is_at_end line || begins_with (λ byte. byte == 35) (first_word line)

-- the words of the line of this number, if it is not skipped
abbrev pub text_at : ℕ → List ℕ → Option LineText
text_at number line =
    if is_skipped line then None
    else Some (record { number = number; first = first_word line; rest = after_word line })

-- the lines that are not skipped, where the first has this number
abbrev pub texts_from : ℕ → List (List ℕ) → List LineText
texts_from number [] = []
texts_from number (line ∷ lines) =
    option_to_list (text_at number line) ++ texts_from (number + 1) lines
