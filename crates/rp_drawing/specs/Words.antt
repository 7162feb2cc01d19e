-- Words within a drawing.
use Rattle.std.specs.Prelude.{ℕ, zero, suc, ◌+◌, ◌*◌, ◌/◌, ◌≤◌, ◌≢◌, ◌&&◌, ◌||◌, nat_eq, nat_le}
use Rattle.std.specs.Prelude.{nat_lt, if◌then◌else◌, Bool, List, [], ◌++◌, codes, drop, length, map}
use Rattle.std.specs.Prelude.{take}

-- a byte of printed ASCII that begins no element and no entity: neither `<` nor `&`
abbrev pub IsPlain : ℕ → Type 0
IsPlain byte = (32 ≤ byte) × (byte ≤ 126) × (byte ≢ 60) × (byte ≢ 38)

-- a byte as it is drawn: a blank in place of `&`, of `<`, and of one that is not printed
abbrev pub plain : ℕ → ℕ
plain byte =
    if nat_eq byte 38 || nat_eq byte 60 then 32
    else if nat_le 33 byte && nat_le byte 126 then byte else 32

-- a whole text as it is drawn
abbrev pub whole_text : List ℕ → List ℕ
whole_text bytes = map plain bytes

-- two dots, where some of a text is left out
abbrev pub dots : Bool → List ℕ
dots is_cut = if is_cut then codes ".." else []

-- the first 36 bytes of a text as they are drawn, and two dots where it has more
abbrev pub fitted_text : List ℕ → List ℕ
fitted_text bytes = whole_text (take 36 bytes) ++ dots (nat_lt 36 (length bytes))

-- ---- a text on several lines

-- how many lines of 36 letters a text takes
abbrev pub text_lines : List ℕ → ℕ
text_lines text = (length text + 35) / 36

-- the line of this number, from 0, of a text
abbrev pub text_line : List ℕ → ℕ → List ℕ
text_line text number = take 36 (drop (36 * number) text)

-- the first n lines of a text, put together
abbrev pub joined_lines : List ℕ → ℕ → List ℕ
joined_lines text zero = []
joined_lines text (suc n) = joined_lines text n ++ text_line text n
