-- Words with a space before each are read back, one after the other.
use Rattle.std.proofs.Common.{◌≡◌, ℕ, suc, ◌+◌, ◌^◌, ◌<◌, ◌≤◌, ◌==◌, ◌&&◌, not, List, [], ◌∷◌, ◌++◌, Bool, true, false, cond, take, drop, length, Option, Some, None, Result, Ok, Err, position, nat_lt, arith, ap, refl, ◌∙◌, length-append}
use Rattle.std.specs.Prelude.{ℤ, pos, negsuc, neg_ℤ, IsTrue, FitsSigned, nat_le}
use Rattle.std.specs.Fmt.{decimal, signed_decimal}
use Rattle.std.specs.Int.{w64}
use Rattle.std.specs.List.{prefix_len, list_all}
use Rattle.std.specs.Char.{is_ascii_digit, is_ascii_alphabetic}
use Rattle.std.specs.Str.Parse.{digits_value, starts_with_minus}
use Rattle.std.proofs.Math.Seq.{take-append_seam}
use Rattle.std.proofs.lemmas.Bool.{lt-ltb, leb-true, le-leb}
use Rattle.std.proofs.lemmas.Bool.Decides.{nat_tests}
use Rattle.std.proofs.lemmas.Fmt.{decimal_is_IsNumeral}
use Rattle.rp_deck.specs.rp_base.specs.declared.fault.DeckReason.{DeckReason}
use Rattle.rp_deck.specs.rp_base.specs.declared.fault.DeckReason.TheVariants.{WrongNumberOfWords, BadName, BadNumber}
use Rattle.rp_words.specs.Words.{begins_with, is_blank, is_of_name, is_name, without_blanks, is_at_end, first_word, after_word, is_digits, number_of, number_within, fits_64}
use Rattle.rp_words.specs.Reading.{◌>>=◌, some_or, word_at, end_at, name_of, name_at, integer_at, number_at, dotted_of}
use Rattle.rp_deck_laws.specs.ScriptText.{spaced}
use Rattle.rp_words.proofs.WordsLemmas.{both, and_true, of_numeral, of_fits}

-- ---- a word

-- each byte is above the space, and there is one
abbrev pub is_solid : List ℕ → Bool
is_solid [] = false
is_solid (byte ∷ bytes) = nat_le 33 byte && list_all (nat_le 33) bytes

pub not_blank : (b : ℕ) → nat_le 33 b ≡ true → not (is_blank b) ≡ true
not_blank b h = let low = leb-true 33 b h in grind (arith, nat_tests)

pub no_blanks : (bs : List ℕ) → list_all (nat_le 33) bs ≡ true → list_all (λ b. not (is_blank b)) bs ≡ true
no_blanks [] h = refl
no_blanks (b ∷ bs) h =
    let t = both (nat_le 33 b) (list_all (nat_le 33) bs) h in
    and_true (not (is_blank b)) (list_all (λ c. not (is_blank c)) bs) (not_blank b t.0) (no_blanks bs t.1)

pub all_of_prefix : (test : ℕ → Bool) (word rest : List ℕ) → list_all test word ≡ true → begins_with test rest ≡ false → prefix_len test (word ++ rest) ≡ length word
all_of_prefix test [] [] all ends = refl
all_of_prefix test [] (b ∷ rest) all ends = ap (λ (t : Bool). cond t (1 + prefix_len test rest) 0) ends
all_of_prefix test (b ∷ word) rest all ends =
    let t = both (test b) (list_all test word) all in
    ap (λ (h : Bool). cond h (1 + prefix_len test (word ++ rest)) 0) t.0 ∙ omega (arith, all_of_prefix test word rest t.1 ends)

pub ends_word : (words : List (List ℕ)) → begins_with (λ b. not (is_blank b)) (spaced words) ≡ false
ends_word [] = refl
ends_word (word ∷ words) = refl

pub drop-append_seam : (xs ys : List ℕ) → drop (length xs) (xs ++ ys) ≡ ys
drop-append_seam [] ys = refl
drop-append_seam (x ∷ xs) ys = drop-append_seam xs ys

-- without the space before it
solid_first : (b : ℕ) (rest : List ℕ) → not (is_blank b) ≡ true → without_blanks (32 ∷ b ∷ rest) ≡ b ∷ rest
solid_first b rest solid =
    let none : prefix_len is_blank (b ∷ rest) ≡ 0 = by (is_blank b) refl in
    ap (λ n. drop (1 + n) (32 ∷ b ∷ rest)) none
  where
    by : (t : Bool) → is_blank b ≡ t → cond t (1 + prefix_len is_blank rest) 0 ≡ 0
    by true e = absurd (cc)
    by false e = refl

abbrev split : ℕ → List ℕ → Result (List ℕ × List ℕ) DeckReason
split n bytes = Ok (take n bytes, drop n bytes)

abbrev word_of : List ℕ → Result (List ℕ × List ℕ) DeckReason
word_of bytes = cond (length bytes == 0) (Err WrongNumberOfWords) (split (prefix_len (λ c. not (is_blank c)) bytes) bytes)

pub not_empty : (b : ℕ) (bs : List ℕ) → (length (b ∷ bs) == 0) ≡ false
not_empty b bs = let some : 0 < length (b ∷ bs) = omega arith in grind (arith, nat_tests)

pub word_back : (word : List ℕ) (words : List (List ℕ)) → is_solid word ≡ true → word_at (spaced (word ∷ words)) ≡ Ok (word, spaced words)
unfolding word_at
word_back [] words solid = absurd cc
word_back (b ∷ bs) words solid =
    let t = both (nat_le 33 b) (list_all (nat_le 33) bs) solid in
    let whole : without_blanks (spaced ((b ∷ bs) ∷ words)) ≡ (b ∷ bs) ++ spaced words = solid_first b (bs ++ spaced words) (not_blank b t.0) in
    let len : prefix_len (λ c. not (is_blank c)) ((b ∷ bs) ++ spaced words) ≡ length (b ∷ bs) = all_of_prefix (λ c. not (is_blank c)) (b ∷ bs) (spaced words) (no_blanks (b ∷ bs) solid) (ends_word words) in
    let parted : split (prefix_len (λ c. not (is_blank c)) ((b ∷ bs) ++ spaced words)) ((b ∷ bs) ++ spaced words) ≡ split (length (b ∷ bs)) ((b ∷ bs) ++ spaced words) = ap (λ (n : ℕ). split n ((b ∷ bs) ++ spaced words)) len in
    let exact : split (length (b ∷ bs)) ((b ∷ bs) ++ spaced words) ≡ Ok (b ∷ bs, spaced words) = (λ i. Ok (take-append_seam (b ∷ bs) (spaced words) i, drop-append_seam (b ∷ bs) (spaced words) i)) in
    let some : word_of ((b ∷ bs) ++ spaced words) ≡ split (prefix_len (λ c. not (is_blank c)) ((b ∷ bs) ++ spaced words)) ((b ∷ bs) ++ spaced words) =
    ap (λ (t : Bool). cond t (Err WrongNumberOfWords) (split (prefix_len (λ c. not (is_blank c)) ((b ∷ bs) ++ spaced words)) ((b ∷ bs) ++ spaced words))) (not_empty b (bs ++ spaced words)) in
    ap word_of whole ∙ some ∙ parted ∙ exact

-- ---- one reader after another

pub bind : {A B E : Type 0} (read : Result A E) (x : A) (next : A → Result B E) → read ≡ Ok x → (read >>= next) ≡ next x
bind read x next is = ap (λ r. r >>= next) is

pub end_back : end_at (spaced []) ≡ Ok tt
unfolding end_at
end_back = refl

-- ---- names

low_of_name : (b : ℕ) → IsTrue (is_of_name b) → 48 ≤ b
low_of_name b h = grind (arith, nat_tests)

all_of_name_solid : (bs : List ℕ) → list_all is_of_name bs ≡ true → list_all (nat_le 33) bs ≡ true
all_of_name_solid [] h = refl
all_of_name_solid (b ∷ bs) h =
    let t = both (is_of_name b) (list_all is_of_name bs) h in
    and_true (nat_le 33 b) (list_all (nat_le 33) bs) (le-leb 33 b (omega (arith, low_of_name b t.0))) (all_of_name_solid bs t.1)

all_of_name : (word : List ℕ) → is_name word ≡ true → list_all is_of_name word ≡ true
all_of_name word name = (both (nat_le (length word) 16 && begins_with is_ascii_alphabetic word) (list_all is_of_name word) name).1

solid_of : (word : List ℕ) → (word ≡ [] → ⊥) → list_all (nat_le 33) word ≡ true → is_solid word ≡ true
solid_of [] some all = absurd (some refl)
solid_of (b ∷ bs) some all = all

name_some : (word : List ℕ) → is_name word ≡ true → word ≡ [] → ⊥
name_some [] name e = cc
name_some (b ∷ bs) name e = cc

pub name_solid : (word : List ℕ) → is_name word ≡ true → is_solid word ≡ true
name_solid word name = solid_of word (name_some word name) (all_of_name_solid word (all_of_name word name))

pub name_is : (word : List ℕ) → is_name word ≡ true → name_of word ≡ Ok word
name_is word name = ap (λ (t : Bool). cond t (Ok word) (Err BadName)) name

pub name_back : (word : List ℕ) (words : List (List ℕ)) → is_name word ≡ true → name_at (spaced (word ∷ words)) ≡ Ok (word, spaced words)
unfolding name_at
name_back word words name =
    bind (word_at (spaced (word ∷ words))) (word, spaced words) (λ (w : List ℕ × List ℕ). name_of w.0 >>= (λ (n : List ℕ). Ok (n, w.1))) (word_back word words (name_solid word name))
    ∙ bind (name_of word) word (λ (n : List ℕ). Ok (n, spaced words)) (name_is word name)

-- ---- numbers

all_digits_solid : (bs : List ℕ) → list_all is_ascii_digit bs ≡ true → list_all (nat_le 33) bs ≡ true
all_digits_solid [] h = refl
all_digits_solid (b ∷ bs) h =
    let t = both (is_ascii_digit b) (list_all is_ascii_digit bs) h in
    let low = leb-true 48 b (both (nat_le 48 b) (nat_le b 57) t.0).0 in
    and_true (nat_le 33 b) (list_all (nat_le 33) bs) (le-leb 33 b (omega (arith, low))) (all_digits_solid bs t.1)

digits_some : (ds : List ℕ) → is_digits ds ≡ true → ds ≡ [] → ⊥
digits_some [] digits e = cc
digits_some (d ∷ ds) digits e = cc

digits_solid : (ds : List ℕ) → is_digits ds ≡ true → is_solid ds ≡ true
digits_solid ds digits = solid_of ds (digits_some ds digits) (all_digits_solid ds (both (begins_with is_ascii_digit ds) (list_all is_ascii_digit ds) digits).1)

minus_solid : (ds : List ℕ) → is_digits ds ≡ true → is_solid (45 ∷ ds) ≡ true
minus_solid ds digits = all_digits_solid ds (both (begins_with is_ascii_digit ds) (list_all is_ascii_digit ds) digits).1

pub decimal_digits : (n : ℕ) → n < 2 ^ 64 → is_digits (decimal n) ≡ true
decimal_digits n small = of_numeral (decimal n) (decimal_is_IsNumeral n small).0

-- digits have no sign
no_sign : (ds : List ℕ) → is_digits ds ≡ true → starts_with_minus ds ≡ false
no_sign [] digits = absurd cc
no_sign (d ∷ ds) digits =
    let first : is_ascii_digit d ≡ true = (both (is_ascii_digit d) (list_all is_ascii_digit (d ∷ ds)) digits).0 in
    let low = leb-true 48 d (both (nat_le 48 d) (nat_le d 57) first).0 in
    grind (arith, nat_tests)

read_unsigned : (ds : List ℕ) (n : ℕ) → is_digits ds ≡ true → digits_value 10 ds ≡ n → FitsSigned w64 (pos n) → number_of ds ≡ Some (pos n)
read_unsigned ds n digits value fits =
    let unsigned : starts_with_minus ds ≡ false = no_sign ds digits in
    ap (λ (minus : Bool). cond (is_digits (cond minus (drop 1 ds) ds) && fits_64 (cond minus (neg_ℤ (pos (digits_value 10 (cond minus (drop 1 ds) ds)))) (pos (digits_value 10 (cond minus (drop 1 ds) ds)))))
    (Some (cond minus (neg_ℤ (pos (digits_value 10 (cond minus (drop 1 ds) ds)))) (pos (digits_value 10 (cond minus (drop 1 ds) ds))))) None) unsigned
    ∙ ap (λ (v : ℕ). cond (is_digits ds && fits_64 (pos v)) (Some (pos v)) None) value
    ∙ ap (λ (t : Bool). cond t (Some (pos n)) None) (and_true (is_digits ds) (fits_64 (pos n)) digits (of_fits (pos n) fits))

read_signed : (ds : List ℕ) (n : ℕ) → is_digits ds ≡ true → digits_value 10 ds ≡ suc n → FitsSigned w64 (negsuc n) → number_of (45 ∷ ds) ≡ Some (negsuc n)
read_signed ds n digits value fits =
    ap (λ (v : ℕ). cond (is_digits ds && fits_64 (neg_ℤ (pos v))) (Some (neg_ℤ (pos v))) None) value
    ∙ ap (λ (t : Bool). cond t (Some (negsuc n)) None) (and_true (is_digits ds) (fits_64 (negsuc n)) digits (of_fits (negsuc n) fits))

pub natural_back : (n : ℕ) → n < 2 ^ 63 → number_of (decimal n) ≡ Some (pos n)
natural_back n small =
    let numeral = decimal_is_IsNumeral n (omega (arith, small)) in
    read_unsigned (decimal n) n (of_numeral (decimal n) numeral.0) numeral.1 (record { sfits = omega (arith, small) })

-- ---- numbers from low to high, and any number

within_back : (low high n : ℕ) → low ≤ n → n ≤ high → number_within low high (Some (pos n)) ≡ Some n
within_back low high n least most = ap (λ (t : Bool). cond t (Some n) None) (and_true (nat_le low n) (nat_le n high) (le-leb low n least) (le-leb n high most))

pub number_back : (low high n : ℕ) (words : List (List ℕ)) → low ≤ n → n ≤ high → n < 2 ^ 63 → number_at low high (spaced (decimal n ∷ words)) ≡ Ok (n, spaced words)
unfolding number_at
number_back low high n words least most small =
    let solid : is_solid (decimal n) ≡ true = digits_solid (decimal n) (decimal_digits n (omega (arith, small))) in
    let found : some_or BadNumber (number_within low high (number_of (decimal n))) ≡ Ok n =
    ap (λ (o : Option ℤ). some_or BadNumber (number_within low high o)) (natural_back n small) ∙ ap (some_or BadNumber) (within_back low high n least most) in
    bind (word_at (spaced (decimal n ∷ words))) (decimal n, spaced words) (λ (w : List ℕ × List ℕ). some_or BadNumber (number_within low high (number_of w.0)) >>= (λ (m : ℕ). Ok (m, w.1))) (word_back (decimal n) words solid)
    ∙ bind (some_or BadNumber (number_within low high (number_of (decimal n)))) n (λ (m : ℕ). Ok (m, spaced words)) found

pub signed_solid : (z : ℤ) → FitsSigned w64 z → is_solid (signed_decimal z) ≡ true
signed_solid (pos n) fits = digits_solid (decimal n) (decimal_digits n (omega (arith, fits.sfits)))
signed_solid (negsuc n) fits = minus_solid (decimal (suc n)) (decimal_digits (suc n) (omega (arith, fits.sfits)))

pub signed_back : (z : ℤ) → FitsSigned w64 z → number_of (signed_decimal z) ≡ Some z
signed_back (pos n) fits = natural_back n (omega (arith, fits.sfits))
signed_back (negsuc n) fits =
    let numeral = decimal_is_IsNumeral (suc n) (omega (arith, fits.sfits)) in
    read_signed (decimal (suc n)) n (of_numeral (decimal (suc n)) numeral.0) numeral.1 fits

pub integer_back : (z : ℤ) (words : List (List ℕ)) → FitsSigned w64 z → integer_at (spaced (signed_decimal z ∷ words)) ≡ Ok (z, spaced words)
unfolding integer_at
integer_back z words fits =
    bind (word_at (spaced (signed_decimal z ∷ words))) (signed_decimal z, spaced words) (λ (w : List ℕ × List ℕ). some_or BadNumber (number_of w.0) >>= (λ (m : ℤ). Ok (m, w.1))) (word_back (signed_decimal z) words (signed_solid z fits))
    ∙ bind (some_or BadNumber (number_of (signed_decimal z))) z (λ (m : ℤ). Ok (m, spaced words)) (ap (some_or BadNumber) (signed_back z fits))

-- ---- two names with a dot between them

not_dot : (b : ℕ) → is_of_name b ≡ true → not (b == 46) ≡ true
not_dot b h = let low = low_of_name b h in grind (arith, nat_tests)

no_dots : (bs : List ℕ) → list_all is_of_name bs ≡ true → list_all (λ b. not (b == 46)) bs ≡ true
no_dots [] h = refl
no_dots (b ∷ bs) h =
    let t = both (is_of_name b) (list_all is_of_name bs) h in
    and_true (not (b == 46)) (list_all (λ c. not (c == 46)) bs) (not_dot b t.0) (no_dots bs t.1)

dot_at : (first second : List ℕ) → is_name first ≡ true → position (λ b. b == 46) (first ++ 46 ∷ second) ≡ Some (length first)
dot_at first second name =
    let place : prefix_len (λ b. not (b == 46)) (first ++ 46 ∷ second) ≡ length first = all_of_prefix (λ b. not (b == 46)) first (46 ∷ second) (no_dots first (all_of_name first name)) refl in
    let below : length first < length (first ++ 46 ∷ second) = omega (arith, length-append first (46 ∷ second)) in
    ap (λ (n : ℕ). cond (nat_lt n (length (first ++ 46 ∷ second))) (Some n) None) place
    ∙ ap (λ (t : Bool). cond t (Some (length first)) None) (lt-ltb (length first) (length (first ++ 46 ∷ second)) below)

pub dotted_back : (first second : List ℕ) → is_name first ≡ true → is_name second ≡ true → dotted_of (first ++ 46 ∷ second) ≡ Ok (first, second)
unfolding dotted_of
dotted_back first second one two =
    let word : List ℕ = first ++ 46 ∷ second in
    let before : take (length first) word ≡ first = take-append_seam first (46 ∷ second) in
    let after : drop 1 (drop (length first) word) ≡ second = ap (drop 1) (drop-append_seam first (46 ∷ second)) in
    bind (some_or BadName (position (λ b. b == 46) word)) (length first) (λ (dot : ℕ). name_of (take dot word) >>= (λ (f : List ℕ). name_of (drop 1 (drop dot word)) >>= (λ (s : List ℕ). Ok (f, s)))) (ap (some_or BadName) (dot_at first second one))
    ∙ bind (name_of (take (length first) word)) first (λ (f : List ℕ). name_of (drop 1 (drop (length first) word)) >>= (λ (s : List ℕ). Ok (f, s))) (ap name_of before ∙ name_is first one)
    ∙ bind (name_of (drop 1 (drop (length first) word))) second (λ (s : List ℕ). Ok (first, s)) (ap name_of after ∙ name_is second two)

dotted_parts_solid : (first second : List ℕ) → list_all (nat_le 33) first ≡ true → list_all (nat_le 33) second ≡ true → list_all (nat_le 33) (first ++ 46 ∷ second) ≡ true
dotted_parts_solid [] second one two = two
dotted_parts_solid (b ∷ bs) second one two =
    let t = both (nat_le 33 b) (list_all (nat_le 33) bs) one in
    and_true (nat_le 33 b) (list_all (nat_le 33) (bs ++ 46 ∷ second)) t.0 (dotted_parts_solid bs second t.1 two)

dotted_some : (first second : List ℕ) → first ++ 46 ∷ second ≡ [] → ⊥
dotted_some [] second e = cc
dotted_some (b ∷ bs) second e = cc

pub dotted_solid : (first second : List ℕ) → is_name first ≡ true → is_name second ≡ true → is_solid (first ++ 46 ∷ second) ≡ true
dotted_solid first second one two =
    solid_of (first ++ 46 ∷ second) (dotted_some first second)
    (dotted_parts_solid first second (all_of_name_solid first (all_of_name first one)) (all_of_name_solid second (all_of_name second two)))

pub decimal_solid : (n : ℕ) → n < 2 ^ 63 → is_solid (decimal n) ≡ true
decimal_solid n small = digits_solid (decimal n) (decimal_digits n (omega (arith, small)))

-- a word that may be left out is there
some_left : (word : List ℕ) (words : List (List ℕ)) → word_at (spaced (word ∷ words)) ≡ Ok (word, spaced words) → is_at_end (spaced (word ∷ words)) ≡ false
unfolding word_at
some_left word words back = by (is_at_end (spaced (word ∷ words))) refl
  where
    by : (t : Bool) → is_at_end (spaced (word ∷ words)) ≡ t → is_at_end (spaced (word ∷ words)) ≡ false
    by false e = e
    by true e =
        let bad : word_at (spaced (word ∷ words)) ≡ Err WrongNumberOfWords = ap (λ (b : Bool). cond b (Err WrongNumberOfWords) (Ok (first_word (spaced (word ∷ words)), after_word (spaced (word ∷ words))))) e in
        absurd (cc)

pub word_there : (word : List ℕ) (words : List (List ℕ)) → is_solid word ≡ true → is_at_end (spaced (word ∷ words)) ≡ false
word_there word words solid = some_left word words (word_back word words solid)
