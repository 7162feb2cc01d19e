-- The lines of the next deck: those of a deck up to `script`, each component with another first
-- value, without comments, and with one space between words.
use Rattle.std.specs.Prelude.{◌≡◌, ◌⊎◌, ℕ, zero, suc, true, false, codes, Option, Some, None, Ok}
use Rattle.std.specs.Prelude.{List}
use Rattle.std.specs.Prelude.{[], ◌∷◌, ◌++◌, if◌then◌else◌}
use Rattle.std.specs.Str.{bytes_eq}
use Rattle.rp_deck.specs.rp_words.specs.Lines.{LineText}
use Rattle.rp_deck.specs.rp_words.specs.Reading.{word_at}
use Rattle.rp_deck.specs.rp_words.specs.Words.{is_at_end}

-- the first n words of these bytes, or all if there are no more, each after a space
abbrev pub AreFirstWords : ℕ → List ℕ → List ℕ → Type 0
AreFirstWords zero bytes text = text ≡ []
AreFirstWords (suc n) bytes text =
    ((is_at_end bytes ≡ true) × (text ≡ []))
    ⊎ ((word rest after : List ℕ) × (word_at bytes ≡ Ok (word, rest))
    × (text ≡ 32 ∷ word ++ after) × AreFirstWords n rest after)

-- the most words of a line of a deck, after its first one
abbrev pub most_words : ℕ
most_words = 64

-- how many words of a component's line are before its first value: `NAME LOW HIGH`, or `NAME`
abbrev pub words_before_value : List ℕ → Option ℕ
words_before_value first =
    if bytes_eq first (codes "int") then Some 3
    else if bytes_eq first (codes "bool") then Some 1
    else None

-- what follows the first word of a line: the same words, or those of a component and some value
abbrev pub IsNextRest : Option ℕ → List ℕ → List ℕ → Type 0
IsNextRest None bytes text = AreFirstWords most_words bytes text
IsNextRest (Some count) bytes text =
    (kept value : List ℕ) × AreFirstWords count bytes kept × (text ≡ kept ++ 32 ∷ value)

-- a line
abbrev pub IsNextLine : LineText → List ℕ → Type 0
IsNextLine line text =
    (rest : List ℕ) × IsNextRest (words_before_value line.first) line.rest rest
    × (text ≡ line.first ++ rest ++ 10 ∷ [])

-- the lines up to `script`, and that
abbrev pub AreNextLines : List LineText → List ℕ → Type 0
AreNextLines [] text = text ≡ []
AreNextLines (line ∷ lines) text =
    ((bytes_eq line.first (codes "script") ≡ true) × (text ≡ codes "script\n"))
    ⊎ ((bytes_eq line.first (codes "script") ≡ false)
    × ((here after : List ℕ) × IsNextLine line here × AreNextLines lines after
    × (text ≡ here ++ after)))
