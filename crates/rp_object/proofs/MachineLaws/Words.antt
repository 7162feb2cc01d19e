-- Numbers in a text: where a number ends at a blank or at the end of a line, it can be read off.
use Rattle.std.proofs.Common.{◌≡◌, ◌⊎◌, inl, inr, ℕ, suc, ◌<◌, ◌^◌, ℤ, pos, negsuc, List, [], ◌∷◌}
use Rattle.std.proofs.Common.{◌++◌, decimal, FitsSigned, w64, refl, sym, ◌∙◌, subst, arith}
use Rattle.std.proofs.lemmas.List.{append_assoc}
use Rattle.std.proofs.lemmas.Fmt.{decimal_is_IsNumeral, decimal_injective, signed_decimal_injective}
use Rattle.std.specs.List.{AllByRecursion}
use Rattle.std.specs.Char.{digit_value}
use Rattle.std.specs.Str.Parse.{AllDigits}
use Rattle.std.specs.Fmt.{signed_decimal}
use lib.Signed.{mag}

-- a blank or a line feed
abbrev pub IsGap : ℕ → Type 0
IsGap c = (c ≡ 32) ⊎ (c ≡ 10)

-- the text begins with a blank or a line feed
abbrev pub EndsWord : List ℕ → Type 0
EndsWord [] = ⊥
EndsWord (c ∷ cs) = IsGap c

pub ends_before : (s t : List ℕ) → EndsWord s → EndsWord (s ++ t)
ends_before [] t gap = absurd gap
ends_before (c ∷ s) t gap = gap

-- no character of the text is a blank or a line feed
abbrev IsWord : List ℕ → Type 0
IsWord text = AllByRecursion (λ c. ¬ IsGap c) text

-- where words end, equal texts have equal first words
split_word : (xs ys s t : List ℕ) → IsWord xs → IsWord ys → EndsWord s → EndsWord t
    → xs ++ s ≡ ys ++ t
    → (xs ≡ ys) × (s ≡ t)
split_word [] [] s t p q u v e = (refl, e)
split_word [] (y ∷ ys) [] t p q u v e = absurd u
split_word [] (y ∷ ys) (c ∷ s) t p q u v e = let is : c ≡ y = cc in absurd (q.0 (subst IsGap is u))
split_word (x ∷ xs) [] s [] p q u v e = absurd v
split_word (x ∷ xs) [] s (c ∷ t) p q u v e = let is : c ≡ x = cc in absurd (p.0 (subst IsGap is v))
split_word (x ∷ xs) (y ∷ ys) s t p q u v e =
    let rest : xs ++ s ≡ ys ++ t = cc in
    let both = split_word xs ys s t p.1 q.1 u v rest in
    let first : xs ≡ ys = both.0 in
    (cc, both.1)

digit_no_gap : (c : ℕ) → digit_value c < 10 → ¬ IsGap c
digit_no_gap c digit (inl is) =
    let low : digit_value 32 < 10 = subst (λ (n : ℕ). digit_value n < 10) is digit in omega arith
digit_no_gap c digit (inr is) =
    let low : digit_value 10 < 10 = subst (λ (n : ℕ). digit_value n < 10) is digit in omega arith

digits_word : (ds : List ℕ) → AllDigits 10 ds → IsWord ds
digits_word [] all = tt
digits_word (d ∷ ds) all = (digit_no_gap d all.0, digits_word ds all.1)

decimal_word : (n : ℕ) → n < 2 ^ 64 → IsWord (decimal n)
decimal_word n small = digits_word (decimal n) (decimal_is_IsNumeral n small).0.1

minus_no_gap : ¬ IsGap 45
minus_no_gap (inl is) = absurd (omega (arith, is))
minus_no_gap (inr is) = absurd (omega (arith, is))

signed_word : (z : ℤ) → mag z < 2 ^ 63 → IsWord (signed_decimal z)
signed_word (pos n) small = decimal_word n (omega (arith, small))
signed_word (negsuc n) small = (minus_no_gap, decimal_word (suc n) (omega (arith, small)))

-- a number that fits 64 signed bits
pub read_signed : (x y : ℤ) (s t : List ℕ) → FitsSigned w64 x → FitsSigned w64 y → EndsWord s
    → EndsWord t
    → signed_decimal x ++ s ≡ signed_decimal y ++ t → (x ≡ y) × (s ≡ t)
read_signed x y s t p q u v e =
    let both = split_word (signed_decimal x) (signed_decimal y) s t (signed_word x p.sfits)
    (signed_word y q.sfits) u v e in
    (signed_decimal_injective x y p.sfits q.sfits both.0, both.1)

-- one that fits 32 bits
pub read_count : (m n : ℕ) (s t : List ℕ) → m < 2 ^ 32 → n < 2 ^ 32 → EndsWord s → EndsWord t
    → decimal m ++ s ≡ decimal n ++ t → (m ≡ n) × (s ≡ t)
read_count m n s t p q u v e =
    let small : m < 2 ^ 64 = omega (arith, p) in
    let too : n < 2 ^ 64 = omega (arith, q) in
    let both =
    split_word (decimal m) (decimal n) s t (decimal_word m small) (decimal_word n too) u v e in
    (decimal_injective m n small too both.0, both.1)

-- brackets moved to the right
pub regroup : (a b s c d t : List ℕ) → (a ++ b) ++ s ≡ (c ++ d) ++ t → a ++ (b ++ s) ≡ c ++ (d ++ t)
regroup a b s c d t e = sym (append_assoc a b s) ∙ e ∙ append_assoc c d t
