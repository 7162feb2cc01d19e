-- The words of a line, which of them are names, and which are numbers.
use Rattle.std.specs.Prelude.{ℕ, ◌==◌, ◌||◌, ◌&&◌, Bool, true, false, not, List, [], ◌∷◌, take}
use Rattle.std.specs.Prelude.{drop, length, IsTrue, nat_le, if◌then◌else◌, ◌-◌, ◌^◌, ℤ, pos, negsuc}
use Rattle.std.specs.Prelude.{neg_ℤ, int_le, codes, Option, Some, None}
use Rattle.std.specs.List.{prefix_len, list_all}
use Rattle.std.specs.Char.{is_ascii_digit, is_ascii_alphabetic}
use Rattle.std.specs.Str.{bytes_eq}
use Rattle.std.specs.Str.Parse.{digits_value, starts_with_minus}
use Rattle.rp_words.specs.declared.words.Words.{Words}

-- the first byte passes the test
abbrev pub begins_with : (ℕ → Bool) → List ℕ → Bool
begins_with test [] = false
begins_with test (byte ∷ bytes) = test byte

-- a space or a tab
abbrev pub is_blank : ℕ → Bool
is_blank byte = byte == 32 || byte == 9

-- the bytes from the first word on
abbrev pub without_blanks : List ℕ → List ℕ
without_blanks bytes = drop (prefix_len is_blank bytes) bytes

-- no word is left
abbrev pub is_at_end : List ℕ → Bool
is_at_end bytes = length (without_blanks bytes) == 0

-- the bytes up to the first blank
abbrev pub first_word : List ℕ → List ℕ
first_word bytes =
    take (prefix_len (λ byte. not (is_blank byte)) (without_blanks bytes)) (without_blanks bytes)

-- the bytes from that blank on
abbrev pub after_word : List ℕ → List ℕ
after_word bytes =
    drop (prefix_len (λ byte. not (is_blank byte)) (without_blanks bytes)) (without_blanks bytes)

-- the bytes that are still to be read
abbrev pub unread : Words → List ℕ
unread words = words.rest.now

-- a letter, a digit or an underscore
abbrev pub is_of_name : ℕ → Bool
is_of_name byte = is_ascii_alphabetic byte || is_ascii_digit byte || byte == 95

-- a letter, and then at most 15 letters, digits or underscores
abbrev pub is_name : List ℕ → Bool
is_name word =
    nat_le (length word) 16 && begins_with is_ascii_alphabetic word && list_all is_of_name word

-- the same as a fact
abbrev pub IsName : List ℕ → Type 0
IsName word = IsTrue (is_name word)

-- without the `-` that may come first
abbrev pub without_minus : List ℕ → List ℕ
without_minus word = if starts_with_minus word then drop 1 word else word

-- one decimal digit or more
abbrev pub is_digits : List ℕ → Bool
is_digits word = begins_with is_ascii_digit word && list_all is_ascii_digit word

-- the number of a word
abbrev pub number_written : List ℕ → ℤ
number_written word =
    let size = pos (digits_value 10 (without_minus word)) in
    if starts_with_minus word then neg_ℤ size else size

-- the number is one of 64 signed bits
abbrev pub fits_64 : ℤ → Bool
fits_64 number = int_le (negsuc (2 ^ 63 - 1)) number && int_le number (pos (2 ^ 63 - 1))

-- the number that a word is: an optional `-` and decimal digits, within 64 signed bits
abbrev pub number_of : List ℕ → Option ℤ
number_of word =
    if is_digits (without_minus word) && fits_64 (number_written word)
    then Some (number_written word)
    else None

-- the number, where it is from low to high
abbrev pub number_within : ℕ → ℕ → Option ℤ → Option ℕ
number_within low high (Some (pos n)) = if nat_le low n && nat_le n high then Some n else None
number_within low high _ = None

-- the word is read as a number: it begins with a digit or `-`
abbrev pub begins_as_number : List ℕ → Bool
begins_as_number word = begins_with (λ byte. byte == 45 || is_ascii_digit byte) word

-- the value in the first of these rows that has the word
abbrev pub first_named : {X : Type 0} → List (List ℕ × X) → List ℕ → Option X
first_named [] word = None
first_named (row ∷ rows) word = if bytes_eq word row.0 then Some row.1 else first_named rows word

-- `true` or `false`
abbrev pub truth_named : List ℕ → Option Bool
truth_named word =
    if bytes_eq word (codes "true") then Some true
    else if bytes_eq word (codes "false") then Some false
    else None
