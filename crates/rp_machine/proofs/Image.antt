-- The text of the sums, one sum further.
use Rattle.std.proofs.Common.{◌≡◌, ℕ, suc, ◌+◌, ◌<◌, ℤ, pos, List, [], ◌∷◌, ◌++◌, length, get_or, take, codes, decimal, sym, ap, ◌∙◌, arith, append_assoc, append-nil, length-take-le}
use Rattle.std.proofs.lemmas.List.{take_more}
use Rattle.std.specs.Fmt.{signed_decimal}
use Rattle.rp_machine.specs.TallyRule.{sum_text, sums_text}

-- the text of the sums and one more
sums_text-push : (object : ℕ) (xs : List ℤ) (y : ℤ) → sums_text object (xs ++ y ∷ []) ≡ sums_text object xs ++ sum_text (object + length xs) y
sums_text-push object [] y =
    let same : object ≡ object + 0 = omega arith in
    append-nil (sum_text object y) ∙ ap (λ n. sum_text n y) same
sums_text-push object (x ∷ xs) y =
    let same : suc object + length xs ≡ object + suc (length xs) = omega arith in
    let left = sum_text object x in
    let middle = sums_text (suc object) xs in
    ap (λ rest. left ++ rest) (sums_text-push (suc object) xs y) ∙ sym (append_assoc left middle (sum_text (suc object + length xs) y)) ∙ ap (λ n. left ++ middle ++ sum_text n y) same

-- the text of the first sums, and then one sum as it is printed
pub image_more : (text new : List ℕ) (sums : List ℤ) (place : ℕ) → place < length sums → text ≡ codes "tally" ++ sums_text 1 (take place sums)
    → new ≡ text ++ 32 ∷ 111 ∷ (decimal (place + 1) ++ 61 ∷ signed_decimal (get_or sums place (pos 0)))
    → new ≡ codes "tally" ++ sums_text 1 (take (place + 1) sums)
image_more text new sums place below so_far printed =
    let sum = get_or sums place (pos 0) in
    let first = take place sums in
    let long : length first ≡ place = length-take-le place sums (omega arith) in
    let object : 1 + length first ≡ place + 1 = omega arith in
    let one : sum_text (place + 1) sum ≡ 32 ∷ 111 ∷ (decimal (place + 1) ++ 61 ∷ signed_decimal sum) = ap (λ rest. 32 ∷ 111 ∷ rest) (append_assoc (decimal (place + 1)) (codes "=") (signed_decimal sum)) in
    let more : sums_text 1 (take (place + 1) sums) ≡ sums_text 1 first ++ sum_text (place + 1) sum =
    ap (sums_text 1) (take_more sums place (pos 0) below) ∙ sums_text-push 1 first sum ∙ ap (λ n. sums_text 1 first ++ sum_text n sum) object in
    printed ∙ ap (λ before. before ++ 32 ∷ 111 ∷ (decimal (place + 1) ++ 61 ∷ signed_decimal sum)) so_far ∙ append_assoc (codes "tally") (sums_text 1 first) (32 ∷ 111 ∷ (decimal (place + 1) ++ 61 ∷ signed_decimal sum)) ∙ ap (λ rest. codes "tally" ++ (sums_text 1 first ++ rest)) (sym one) ∙ ap (λ rest. codes "tally" ++ rest) (sym more)
