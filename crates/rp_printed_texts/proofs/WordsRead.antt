-- Words and numbers are read back.
use Rattle.std.proofs.Common.{◌≡◌, ◌≢◌, ◌<◌, ◌^◌, ℕ, suc, ℤ, pos, negsuc, ◌==◌, false, cond, List, [], ◌∷◌, ◌++◌, refl, ◌∙◌, ap, arith, FitsSigned, w64}
use Rattle.std.specs.Prelude.{neg_ℤ}
use Rattle.std.specs.Fmt.{decimal, signed_decimal}
use Rattle.std.specs.Str.Parse.{IsNumeral, AllDigits, digits_value}
use Rattle.std.proofs.lemmas.Bool.Decides.{nat_tests}
use Rattle.std.proofs.lemmas.Fmt.{decimal_is_IsNumeral}
use Rattle.std.proofs.lemmas.Str.Parse.{digit_from_value}
use Rattle.rp_printed_texts.specs.Reading.{words_in, with_first, signed_in, before_colon, HasNoSpace}

-- ---- words

pub other : (byte mark : ℕ) → byte ≢ mark → (byte == mark) ≡ false
other byte mark apart = grind (arith, nat_tests, apart)

pub word_first : (word rest : List ℕ) → HasNoSpace word → words_in (word ++ 32 ∷ rest) ≡ word ∷ words_in rest
word_first [] rest none = refl
word_first (byte ∷ word) rest none =
    ap (λ b. cond {A = List (List ℕ)} b ([] ∷ words_in (word ++ 32 ∷ rest)) (with_first byte (words_in (word ++ 32 ∷ rest)))) (other byte 32 none.0)
    ∙ ap (with_first byte) (word_first word rest none.1)

pub word_last : (word : List ℕ) → HasNoSpace word → words_in word ≡ word ∷ []
word_last [] none = refl
word_last (byte ∷ word) none =
    ap (λ b. cond {A = List (List ℕ)} b ([] ∷ words_in word) (with_first byte (words_in word))) (other byte 32 none.0)
    ∙ ap (with_first byte) (word_last word none.1)

-- ---- digits

pub digits_solid : (ds : List ℕ) → AllDigits 10 ds → HasNoSpace ds
digits_solid [] all = tt
digits_solid (d ∷ ds) all =
    let range = digit_from_value d all.0 in
    ((λ is. omega (arith, range.0, is)), digits_solid ds all.1)

-- digits and then a colon
pub colon_solid : (ds : List ℕ) → AllDigits 10 ds → HasNoSpace (ds ++ 58 ∷ [])
colon_solid [] all = ((λ is. omega (arith, is)), tt)
colon_solid (d ∷ ds) all =
    let range = digit_from_value d all.0 in
    ((λ is. omega (arith, range.0, is)), colon_solid ds all.1)

pub digits_before : (ds : List ℕ) → AllDigits 10 ds → before_colon (ds ++ 58 ∷ []) ≡ ds
digits_before [] all = refl
digits_before (d ∷ ds) all =
    let range = digit_from_value d all.0 in
    ap (λ b. cond {A = List ℕ} b [] (d ∷ before_colon (ds ++ 58 ∷ []))) (other d 58 (λ is. omega (arith, range.1, is)))
    ∙ ap (λ (l : List ℕ). d ∷ l) (digits_before ds all.1)

-- ---- numbers

pub numeral : (n : ℕ) → n < 2 ^ 64 → IsNumeral 10 (decimal n)
numeral n small = (decimal_is_IsNumeral n small).0

pub value_back : (n : ℕ) → n < 2 ^ 64 → digits_value 10 (decimal n) ≡ n
value_back n small = (decimal_is_IsNumeral n small).1

pub number_solid : (n : ℕ) → n < 2 ^ 64 → HasNoSpace (decimal n)
number_solid n small = digits_solid (decimal n) (numeral n small).1

digits_signed : (ds : List ℕ) → IsNumeral 10 ds → signed_in ds ≡ pos (digits_value 10 ds)
digits_signed [] is = absurd (omega (arith, is.0))
digits_signed (d ∷ ds) is =
    let range = digit_from_value d is.1.0 in
    ap (λ b. cond {A = ℤ} b (neg_ℤ (pos (digits_value 10 ds))) (pos (digits_value 10 (d ∷ ds)))) (other d 45 (λ same. omega (arith, range.0, same)))

pub signed_back : (z : ℤ) → FitsSigned w64 z → signed_in (signed_decimal z) ≡ z
signed_back (pos n) fits =
    let small : n < 2 ^ 64 = omega (arith, fits.sfits) in
    digits_signed (decimal n) (numeral n small) ∙ ap pos (value_back n small)
signed_back (negsuc n) fits =
    let small : suc n < 2 ^ 64 = omega (arith, fits.sfits) in
    ap (λ m. neg_ℤ (pos m)) (value_back (suc n) small)

pub signed_solid : (z : ℤ) → FitsSigned w64 z → HasNoSpace (signed_decimal z)
signed_solid (pos n) fits = number_solid n (omega (arith, fits.sfits))
signed_solid (negsuc n) fits = ((λ is. omega (arith, is)), number_solid (suc n) (omega (arith, fits.sfits)))
