-- Where a line ends.
use Rattle.std.specs.Prelude.{ℕ, ◌-◌, not, List, [], ◌∷◌, take, length, nat_eq, if◌then◌else◌}
use Rattle.std.specs.List.{prefix_len, ends_with}
use Rattle.rp_words.specs.Lines.{is_line_feed}

-- how many bytes are before the first line feed
abbrev pub line_end : List ℕ → ℕ
line_end bytes = prefix_len (λ byte. not (is_line_feed byte)) bytes

-- the line without the return at its end, if there is one
abbrev pub without_return : List ℕ → List ℕ
without_return line = if ends_with nat_eq line (13 ∷ []) then take (length line - 1) line else line
