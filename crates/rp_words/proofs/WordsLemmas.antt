-- Names are ASCII, and so they are text. A number is a sign and a size.
use Rattle.std.proofs.Common.{◌≡◌, ℕ, ◌+◌, ◌-◌, ◌*◌, ◌^◌, ◌<◌, ◌≤◌, ◌&&◌, List, [], ◌∷◌, ◌++◌, length, Bool, true, false, cond, take, drop, get_or, arith, IsUtf8, Some, None, ap, refl, sym, ◌∙◌, zero, suc, nat_lt, not}
use Rattle.std.specs.Prelude.{ℤ, pos, negsuc, IsTrue, FitsSigned, nat_le}
use Rattle.std.specs.Int.{w64}
use Rattle.std.specs.List.{list_all, prefix_len}
use Rattle.std.specs.Char.{is_ascii_digit, digit_value}
use Rattle.std.specs.Str.{IsAscii}
use Rattle.std.specs.Str.Parse.{IsNumeral, AllDigits, digits_value, digits_value_after}
use Rattle.std.proofs.lemmas.Bool.{leb-true, lt-ltb, le-ltb, le-leb, and_right}
use Rattle.std.proofs.lemmas.Bool.Decides.{nat_tests}
use Rattle.std.proofs.lemmas.Int.Digits.{digits_value_more}
use Rattle.std.proofs.lemmas.List.{take-append-drop, drop-drop, at_drop_more}
use Rattle.std.proofs.lemmas.List.Folds.{list_all_at}
use Rattle.std.proofs.lemmas.Str.{IsUtf8-from_ascii, digit_value_digit}
use Rattle.std.proofs.lemmas.Str.Parse.{digit_from_value}
use Rattle.rp_words.specs.Words.{begins_with, is_blank, is_of_name, IsName, is_digits, fits_64}
use Rattle.rp_words.specs.Numbers.{size_of}

-- how many bytes are before the first blank
abbrev pub word_length : List ℕ → ℕ
word_length bytes = prefix_len (λ byte. not (is_blank byte)) bytes

pub both : (a b : Bool) → (a && b) ≡ true → (a ≡ true) × (b ≡ true)
both true true h = (refl, refl)
both true false h = absurd cc
both false b h = absurd cc

pub and_true : (a b : Bool) → a ≡ true → b ≡ true → (a && b) ≡ true
and_true true true h k = refl
and_true true false h k = absurd cc
and_true false b h k = absurd cc

-- one more byte in front
ascii_in_front : (b : ℕ) (bs : List ℕ) → b < 128 → IsAscii bs → IsAscii (b ∷ bs)
ascii_in_front b bs small ascii zero = small
ascii_in_front b bs small ascii (suc i) = ascii i

ascii_nil : IsAscii []
ascii_nil zero = omega arith
ascii_nil (suc i) = omega arith

-- ---- names

byte_of_name : (b : ℕ) → IsTrue (is_of_name b) → b < 128
byte_of_name b h = grind (arith, nat_tests)

of_name_is_ascii : (word : List ℕ) → list_all is_of_name word ≡ true → IsAscii word
of_name_is_ascii [] h = ascii_nil
of_name_is_ascii (b ∷ bs) h =
    let t = both (is_of_name b) (list_all is_of_name bs) h in
    ascii_in_front b bs (byte_of_name b t.0) (of_name_is_ascii bs t.1)

pub name_is_text : (word : List ℕ) → IsName word → IsUtf8 word
name_is_text word name = IsUtf8-from_ascii word (of_name_is_ascii word (both _ (list_all is_of_name word) name).1)

-- ---- digits

digit_is : (b : ℕ) → is_ascii_digit b ≡ true → digit_value b < 10
digit_is b h =
    let t = both (nat_le 48 b) (nat_le b 57) h in
    let low = leb-true 48 b t.0 in
    let high = leb-true b 57 t.1 in
    let value = digit_value_digit b (low, high) in
    omega arith

digit_back : (b : ℕ) → digit_value b < 10 → is_ascii_digit b ≡ true
digit_back b h =
    let range = digit_from_value b h in
    and_true (nat_le 48 b) (nat_le b 57) (le-leb 48 b range.0) (le-leb b 57 range.1)

all_digits : (ds : List ℕ) → list_all is_ascii_digit ds ≡ true → AllDigits 10 ds
all_digits [] h = tt
all_digits (d ∷ ds) h =
    let t = both (is_ascii_digit d) (list_all is_ascii_digit ds) h in
    (digit_is d t.0, all_digits ds t.1)

digits_all : (ds : List ℕ) → AllDigits 10 ds → list_all is_ascii_digit ds ≡ true
digits_all [] h = refl
digits_all (d ∷ ds) h = and_true (is_ascii_digit d) (list_all is_ascii_digit ds) (digit_back d h.0) (digits_all ds h.1)

numeral_of : (ds : List ℕ) → is_digits ds ≡ true → IsNumeral 10 ds
numeral_of [] h = absurd cc
numeral_of (d ∷ ds) h = (omega arith, all_digits (d ∷ ds) (both (is_ascii_digit d) (list_all is_ascii_digit (d ∷ ds)) h).1)

pub of_numeral : (ds : List ℕ) → IsNumeral 10 ds → is_digits ds ≡ true
of_numeral [] h = absurd (omega (arith, h.0))
of_numeral (d ∷ ds) h = and_true (is_ascii_digit d) (list_all is_ascii_digit (d ∷ ds)) (digit_back d h.1.0) (digits_all (d ∷ ds) h.1)

-- ---- the size of a number

-- more digits write no smaller number
no_smaller : (n : ℕ) (ds : List ℕ) → n ≤ digits_value_after 10 n ds
no_smaller n [] = omega arith
no_smaller n (d ∷ ds) = omega (arith, no_smaller (n * 10 + digit_value d) ds)

in_parts : (n : ℕ) (ds es : List ℕ) → digits_value_after 10 n (ds ++ es) ≡ digits_value_after 10 (digits_value_after 10 n ds) es
in_parts n [] es = refl
in_parts n (d ∷ ds) es = in_parts (n * 10 + digit_value d) ds es

first_digits_within : (ds : List ℕ) (i : ℕ) → digits_value 10 (take i ds) ≤ digits_value 10 ds
first_digits_within ds i =
    let whole = ap (digits_value 10) (sym (take-append-drop i ds)) ∙ in_parts 0 (take i ds) (drop i ds) in
    rw whole (no_smaller (digits_value 10 (take i ds)) (drop i ds))

-- one digit more
pub next_size : (ds : List ℕ) (i : ℕ) → i < length ds → is_ascii_digit (get_or ds i 0) ≡ true
    → digits_value 10 (take (i + 1) ds) ≡ digits_value 10 (take i ds) * 10 + (get_or ds i 0 - 48)
next_size ds i inside digit =
    let worth : digit_value (get_or ds i 0) ≡ get_or ds i 0 - 48 = grind (arith, nat_tests) in
    rw (digits_value_more 10 ds i inside, worth)

-- a size that the first digits exceed
pub too_large : (ds : List ℕ) (i : ℕ) → 2 ^ 64 ≤ digits_value 10 (take i ds) → size_of ds ≡ None
too_large ds i large =
    let most = first_digits_within ds i in
    let more : 2 ^ 64 ≤ digits_value 10 ds = omega arith in
    rw (le-ltb (digits_value 10 ds) (2 ^ 64) more, and_right (is_digits ds) false refl)

pub no_digit : (ds : List ℕ) (i : ℕ) → i < length ds → is_ascii_digit (get_or ds i 0) ≡ false → size_of ds ≡ None
no_digit ds i inside other = rw (list_all_at is_ascii_digit ds i 0 inside other, and_right (begins_with is_ascii_digit ds) false refl)

pub size_is : (ds : List ℕ) → 0 < length ds → list_all is_ascii_digit ds ≡ true → digits_value 10 ds < 2 ^ 64 → size_of ds ≡ Some (digits_value 10 ds)
size_is [] some all small = absurd (omega arith)
size_is (d ∷ ds) some all small =
    let value = digits_value 10 (d ∷ ds) in
    let first = (both (is_ascii_digit d) (list_all is_ascii_digit ds) all).0 in
    ap (λ (b : Bool). cond b (Some value) None)
    (and_true (is_digits (d ∷ ds)) (nat_lt value (2 ^ 64)) (and_true (is_ascii_digit d) (list_all is_ascii_digit (d ∷ ds)) first all) (lt-ltb value (2 ^ 64) small))

-- ---- 64 bits

pub of_fits : (z : ℤ) → FitsSigned w64 z → fits_64 z ≡ true
of_fits (pos n) h = let small = h.sfits in grind (arith, nat_tests)
of_fits (negsuc n) h = let small = h.sfits in grind (arith, nat_tests)

-- ---- the length of a word

above_space_is_no_blank : (b : ℕ) → nat_lt 32 b ≡ true → not (is_blank b) ≡ true
above_space_is_no_blank b h = grind (arith, nat_tests)

above_or_not : (b : ℕ) (bs : List ℕ) (t : Bool) → nat_lt 32 b ≡ t → word_length bs ≡ prefix_len (nat_lt 32) bs + word_length (drop (prefix_len (nat_lt 32) bs) bs)
    → word_length (b ∷ bs) ≡ cond t (1 + prefix_len (nat_lt 32) bs) 0 + word_length (drop (cond t (1 + prefix_len (nat_lt 32) bs) 0) (b ∷ bs))
above_or_not b bs true e so_far =
    let more : 1 + prefix_len (nat_lt 32) bs ≡ suc (prefix_len (nat_lt 32) bs) = omega arith in
    let rest = ap (λ n. word_length (drop n (b ∷ bs))) more in
    let here = ap (λ (t : Bool). cond t (1 + word_length bs) 0) (above_space_is_no_blank b e) in
    omega (arith, here, rest, so_far)
above_or_not b bs false e so_far = omega arith

-- the bytes in front that are above a space, and those up to the first blank after them
pub word_in_parts : (bytes : List ℕ) → word_length bytes ≡ prefix_len (nat_lt 32) bytes + word_length (drop (prefix_len (nat_lt 32) bytes) bytes)
word_in_parts [] = refl
word_in_parts (b ∷ bs) = above_or_not b bs (nat_lt 32 b) refl (word_in_parts bs)

-- no blank is at the place, and it and the n bytes after it that are above a space are passed
pub word_goes_on : (bytes : List ℕ) (end n : ℕ) → end < length bytes → is_blank (get_or bytes end 0) ≡ false → n ≡ prefix_len (nat_lt 32) (drop (end + 1) bytes)
    → word_length (drop end bytes) ≡ 1 + (n + word_length (drop (end + (1 + n)) bytes))
word_goes_on bytes end n inside other passed =
    let rest = drop (end + 1) bytes in
    let here = at_drop_more word_length bytes end 0 inside ∙ ap (λ (t : Bool). cond (not t) (1 + word_length rest) 0) other in
    let parts = word_in_parts rest ∙ ap (λ k. k + word_length (drop k rest)) (sym passed) in
    let sum : (end + 1) + n ≡ end + (1 + n) = omega arith in
    let there = ap word_length (drop-drop n (end + 1) bytes ∙ ap (λ k. drop k bytes) sum) in
    omega (arith, here, parts, there)
