-- The hint for a bad deck: the first word up to whose end the deck is bad already, and a near word
-- with which it is not.
use Rattle.std.specs.Prelude.{ℕ, ◌≡◌, ◌≤◌, ◌<◌, ◌-◌, ◌++◌, ◌&&◌, ◌⊎◌, Bool, true, false, List, []}
use Rattle.std.specs.Prelude.{codes, decimal, length, nat_eq, nat_le, option_map, string_bytes}
use Rattle.std.specs.Prelude.{Option, Some, None, Err, IfSome, ◌||◌, nat_lt, if◌then◌else◌}
use Rattle.std.specs.List.{list_all}
use Rattle.std.specs.Str.{bytes_eq, chars}
use Rattle.strsim.specs.Edits.{levenshtein_row}
use Rattle.rp_deck.specs.rp_base.specs.declared.fault.DeckReason.{DeckReason}
use Rattle.rp_deck.specs.rp_base.specs.declared.fault.DeckReason.TheVariants.{UnknownName}
use Rattle.rp_deck.specs.rp_base.specs.declared.fault.DeckReason.TheVariants.{UnknownWord}
use Rattle.rp_deck.specs.rp_base.specs.declared.fault.DeckReason.TheVariants.{BadNumber}
use Rattle.rp_deck.specs.rp_base.specs.declared.fault.DeckReason.TheVariants.{BadName}
use Rattle.rp_deck.specs.rp_base.specs.declared.fault.DeckReason.TheVariants.{DuplicateName}
use Rattle.rp_deck.specs.rp_base.specs.declared.fault.DeckReason.TheVariants.{NodesExpected}
use Rattle.rp_deck.specs.rp_base.specs.declared.fault.DeckReason.TheVariants.{NotInLive}
use Rattle.rp_deck.specs.Meaning.{meaning_of}
use Rattle.rp_explore_deck.specs.Plans.{plan_of}
use Rattle.rp_deck_hints.specs.Advice.{advice_text}
use Rattle.rp_deck_hints.specs.AdviceOf.{advice_of}
use Rattle.rp_deck_hints.specs.declared.advice.Advice.{Advice}
use Rattle.rp_deck_hints.specs.declared.reading.Reading.{Reading}
use Rattle.rp_deck_hints.specs.declared.reading.Reading.TheVariants.{Deck, Plan}
use Rattle.rp_deck_hints.specs.Places.{after_words, before_word, line_at, through_word, word_at}
use Rattle.rp_deck_hints.specs.declared.hint.Hint.{Hint}
use Rattle.rp_deck.specs.rp_words.specs.Words.{is_at_end}

-- a bad line of this reason has a word at fault
abbrev pub names_a_word : DeckReason → Bool
names_a_word UnknownName = true
names_a_word UnknownWord = true
names_a_word BadNumber = true
names_a_word BadName = true
names_a_word DuplicateName = true
names_a_word NodesExpected = true
names_a_word NotInLive = true
names_a_word _ = false

-- the text is bad, first at this line and for this reason
abbrev pub IsBadAt : Reading → ℕ → DeckReason → List ℕ → Type 0
IsBadAt (Deck mode) line reason text =
    meaning_of mode text ≡ Err (record { line = line; reason = reason })
IsBadAt Plan line reason text = plan_of text ≡ Err (record { line = line; reason = reason })

-- The word of this number is at fault: up to its end the text is bad already, and up to the end of
-- no word before it on the line.
pub record IsAtFault (reading : Reading) (text : List ℕ) (line : ℕ) (reason : DeckReason) (number : ℕ)
    (word : List ℕ) : Type 0 where
  pub there : is_at_end (after_words (line_at text line) (number - 1)) ≡ false
  pub word_is : word ≡ word_at text line number
  pub bad : IsBadAt reading line reason (through_word text line number)
  pub first : (n : ℕ) → 1 ≤ n → n < number → ¬ IsBadAt reading line reason (through_word text line n)

-- none of the first 64 words of the line is
abbrev pub IsNoneAtFault : Reading → List ℕ → ℕ → DeckReason → Type 0
IsNoneAtFault reading text line reason = (n : ℕ) → 1 ≤ n → n ≤ 64
    → is_at_end (after_words (line_at text line) (n - 1)) ≡ false
    → ¬ IsBadAt reading line reason (through_word text line n)

-- how many edits lead from one word to the other
abbrev pub edits : List ℕ → List ℕ → ℕ
edits from to = levenshtein_row nat_eq (chars from) (chars to) (length (chars to))

-- Another word in place of the word after these bytes: at most two edits from it, and fewer than the
-- word has bytes, and with it the text up to there is not bad at this line for this reason.
pub record IsNear (reading : Reading) (line : ℕ) (reason : DeckReason) (before word : List ℕ)
    (near : List ℕ) : Type 0 where
  pub close : edits word near ≤ 2
  pub part : edits word near < length word
  pub helps : ¬ IsBadAt reading line reason (before ++ near)

-- A hint names the word at fault, what to write there, and a near word that helps, if it names one.
pub record IsHint (reading : Reading) (text : List ℕ) (line : ℕ) (reason : DeckReason) (hint : Hint)
    : Type 0 where
  pub hinted : names_a_word reason ≡ true
  pub fault : IsAtFault reading text line reason hint.number hint.word.now
  pub advice : hint.advice ≡ advice_of reason (word_at text line 1) hint.number
  pub near : IfSome hint.near (λ near. IsNear reading line reason
      (before_word text line hint.number) hint.word.now (string_bytes near))

-- a line that begins with this word is a guard
abbrev pub begins_guard : List ℕ → Bool
begins_guard first = bytes_eq first (codes "when") || bytes_eq first (codes "unless")

-- the word of this number is one of a guard's reply, or its last word where the guard has no call
abbrev pub is_of_guard : Reading → List ℕ → ℕ → Bool
is_of_guard (Deck mode) first number = false
is_of_guard Plan first number = begins_guard first && nat_lt 1 number

-- a word is at fault that is of a guard, so that the guard may be at fault as a whole
pub record IsGuardAtFault (reading : Reading) (text : List ℕ) (line : ℕ) (reason : DeckReason)
    : Type 0 where
  pub number : ℕ
  pub word : List ℕ
  pub fault : IsAtFault reading text line reason number word
  pub guard : is_of_guard reading (word_at text line 1) number ≡ true

-- the reason is not one of a word, no word is at fault, or one of a guard is
abbrev pub IsNotHinted : Reading → List ℕ → ℕ → DeckReason → Type 0
IsNotHinted reading text line reason =
    (names_a_word reason ≡ false) ⊎ IsNoneAtFault reading text line reason
    ⊎ IsGuardAtFault reading text line reason

-- the word is printed: at most 40 printable bytes of ASCII
abbrev pub is_graphic : ℕ → Bool
is_graphic byte = nat_le 33 byte && nat_le byte 126

abbrev pub is_printed : List ℕ → Bool
is_printed word = nat_le (length word) 40 && list_all is_graphic word

-- what is said of what to write
abbrev pub advised_text : Option Advice → List ℕ
advised_text None = []
advised_text (Some advice) = codes "; " ++ advice_text advice

-- what is said of the near word, or else of what to write
abbrev pub near_text : Option (List ℕ) → Option Advice → List ℕ
near_text None advice = advised_text advice
near_text (Some near) advice = codes "; did you mean " ++ (near ++ codes "?")

-- the line of a hint, without its end
abbrev pub hint_text : Hint → List ℕ
hint_text hint =
    if is_printed hint.word.now
    then codes "the word is "
    ++ (hint.word.now ++ near_text (option_map string_bytes hint.near) hint.advice)
    else codes "it is word "
    ++ (decimal hint.number ++ (codes " of the line" ++ advised_text hint.advice))
