-- The part of a deck's text that declares.
use Rattle.std.specs.Prelude.{ℕ, suc, nat_eq, Bool, false, ◌&&◌, List, [], ◌∷◌, take, codes}
use Rattle.std.specs.Prelude.{if◌then◌else◌}
use Rattle.std.specs.List.{starts_with}
use Rattle.rp_deck.specs.rp_words.specs.Words.{without_blanks}

-- a line ends, and the next one begins with `script`, after blanks or none
abbrev pub begins_script : List ℕ → Bool
begins_script [] = false
begins_script (byte ∷ line) =
    nat_eq byte 10 && starts_with nat_eq (without_blanks line) (codes "script")

-- how many bytes are before the first line that begins so, or all
abbrev pub declared_len : List ℕ → ℕ
declared_len [] = 0
declared_len (byte ∷ rest) =
    if begins_script (byte ∷ rest) then 0 else suc (declared_len rest)

-- what is before the first line that begins so, or all
abbrev pub declared_part : List ℕ → List ℕ
declared_part text = take (declared_len text) text
