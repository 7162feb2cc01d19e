-- How words are read from left to right. Each reader takes the bytes of a line that are still to be
-- read, and returns what it read and the bytes after that, or the reason of the first word that is
-- missing or wrong.
use Rattle.std.specs.Prelude.{◌≡◌, ℕ, ◌==◌, nat_lt, not, ℤ, Bool, List, take, drop, position}
use Rattle.std.specs.Prelude.{Option, Some, None, Result, Ok, Err, if◌then◌else◌}
use Rattle.rp_base.specs.declared.fault.DeckReason.{DeckReason}
use Rattle.rp_base.specs.declared.fault.DeckReason.TheVariants.{WrongNumberOfWords, BadNumber}
use Rattle.rp_base.specs.declared.fault.DeckReason.TheVariants.{BadName, DuplicateName, TooMany}
use Rattle.rp_words.specs.declared.line_error.LineError.{LineError}
use Rattle.rp_words.specs.declared.line_error.LineError.TheVariants.{OutOfMemory, Bad}
use Rattle.rp_words.specs.Tables.{is_declared}
use Rattle.rp_words.specs.Words.{is_at_end, first_word, after_word, is_name, number_of}
use Rattle.rp_words.specs.Words.{number_within}

-- one reader after another, up to the first reason
infixl 10 ◌>>=◌
abbrev pub ◌>>=◌ : {A B E : Type 0} → Result A E → (A → Result B E) → Result B E
(Ok x) >>= f = f x
(Err reason) >>= f = Err reason

-- what is there, or the reason
abbrev pub some_or : {A : Type 0} → DeckReason → Option A → Result A DeckReason
some_or reason (Some x) = Ok x
some_or reason None = Err reason

-- nothing, or the reason where a test holds
abbrev pub unless : DeckReason → Bool → Result (Unit {0}) DeckReason
unless reason bad = if bad then Err reason else Ok tt

-- room for one more, where there are count of them and may be as many as most
abbrev pub room : ℕ → ℕ → Result (Unit {0}) DeckReason
room most count = unless TooMany (not (nat_lt count most))

-- what is made of what was read, and the bytes after that
abbrev pub made_of : {A B : Type 0} → (A → B) → Result (A × List ℕ) DeckReason
    → Result (B × List ℕ) DeckReason
made_of make (Ok read) = Ok (make read.0, read.1)
made_of make (Err reason) = Err reason

-- What a function returned, seen by view, is what is read.
abbrev pub Gives : {X Y : Type 0} → (X → Y) → Result X DeckReason → Result Y DeckReason → Type 0
Gives view (Ok x) read = read ≡ Ok (view x)
Gives view (Err reason) read = read ≡ Err reason

-- The same, unless memory ran out.
abbrev pub Fails : {Y : Type 0} → LineError → Result Y DeckReason → Type 0
Fails OutOfMemory read = Unit {0}
Fails (Bad reason) read = read ≡ Err reason

abbrev pub Makes : {X Y : Type 0} → (X → Y) → Result X LineError → Result Y DeckReason → Type 0
Makes view (Ok x) read = read ≡ Ok (view x)
Makes view (Err e) read = Fails e read

-- the next word
unfoldable pub word_at : List ℕ → Result (List ℕ × List ℕ) DeckReason
word_at bytes = if is_at_end bytes then Err WrongNumberOfWords
    else Ok (first_word bytes, after_word bytes)

-- no word
unfoldable pub end_at : List ℕ → Result (Unit {0}) DeckReason
end_at bytes = if is_at_end bytes then Ok tt else Err WrongNumberOfWords

-- the word as a name
abbrev pub name_of : List ℕ → Result (List ℕ) DeckReason
name_of word = if is_name word then Ok word else Err BadName

-- a name
unfoldable pub name_at : List ℕ → Result (List ℕ × List ℕ) DeckReason
name_at bytes = do
  word ← word_at bytes
  name ← name_of word.0
  Ok (name, word.1)

-- a name that is not among these
unfoldable pub new_name_at : List (List ℕ) → List ℕ → Result (List ℕ × List ℕ) DeckReason
new_name_at names bytes = do
  name ← name_at bytes
  new ← unless DuplicateName (is_declared name.0 names)
  Ok name

-- two names with one dot between them
unfoldable pub dotted_of : List ℕ → Result (List ℕ × List ℕ) DeckReason
dotted_of word = do
  dot ← some_or BadName (position (λ byte. byte == 46) word)
  first ← name_of (take dot word)
  second ← name_of (drop 1 (drop dot word))
  Ok (first, second)

-- any number
unfoldable pub integer_at : List ℕ → Result (ℤ × List ℕ) DeckReason
integer_at bytes = do
  word ← word_at bytes
  number ← some_or BadNumber (number_of word.0)
  Ok (number, word.1)

-- a number from low to high
unfoldable pub number_at : ℕ → ℕ → List ℕ → Result (ℕ × List ℕ) DeckReason
number_at low high bytes = do
  word ← word_at bytes
  number ← some_or BadNumber (number_within low high (number_of word.0))
  Ok (number, word.1)
