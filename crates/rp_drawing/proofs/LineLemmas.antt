-- The lines of a text.
use Rattle.std.proofs.Common.{◌≡◌, ◌∙◌, ℕ, zero, suc, ◌+◌, ◌-◌, ◌*◌, ◌≤◌, List, [], ◌∷◌, ◌++◌, length, map, take, drop, add-one, arith, length-drop, refl, sym, ap, ap₂}
use Rattle.std.specs.Prelude.{All, min}
use Rattle.std.proofs.lemmas.Bool.Decides.{nat_tests}
use Rattle.std.proofs.lemmas.List.{take_all, take_min, take-take, drop-take, take-append-drop}
use Rattle.std.proofs.lemmas.List.Elements.{All-drop, All-head, All-tail, All-take}
use Rattle.rp_drawing.specs.Lines.{effect_line, effect_lines}
use Rattle.rp_drawing.specs.Words.{IsPlain, joined_lines, plain, text_line}

-- ---- the lines put together

take_both : (n m : ℕ) (xs : List ℕ) → take n xs ++ take m (drop n xs) ≡ take (n + m) xs
take_both n m xs =
    ap (λ (l : List ℕ). l ++ take m (drop n xs)) (sym (take-take n (n + m) xs (omega arith)))
    ∙ ap (λ (l : List ℕ). take n (take (n + m) xs) ++ l) (sym (drop-take n m xs))
    ∙ take-append-drop n (take (n + m) xs)

joined_are : (text : List ℕ) (n : ℕ) → joined_lines text n ≡ take (36 * n) text
joined_are text zero = refl
joined_are text (suc n) =
    let more : 36 * n + 36 ≡ 36 * suc n = omega arith in
    ap (λ (l : List ℕ). l ++ text_line text n) (joined_are text n)
    ∙ take_both (36 * n) 36 text
    ∙ ap (λ (k : ℕ). take k text) more

pub joined_all : (text : List ℕ) (n : ℕ) → length text ≤ 36 * n → joined_lines text n ≡ text
joined_all text n all = joined_are text n ∙ take_all (36 * n) text all

-- ---- letters are drawn as they are

plain_byte : (byte : ℕ) → IsPlain byte → plain byte ≡ byte
plain_byte byte is = grind (arith, nat_tests, is.0, is.1, is.2, is.3)

pub plain_again : (text : List ℕ) → All IsPlain text → map plain text ≡ text
plain_again [] is = refl
plain_again (byte ∷ rest) is =
    ap (λ (b : ℕ). b ∷ map plain rest) (plain_byte byte (All-head IsPlain byte rest is))
    ∙ ap (λ (l : List ℕ). byte ∷ l) (plain_again rest (All-tail IsPlain byte rest is))

-- a line of a text is made of a slice of it
pub line_is : (text bytes : List ℕ) (number count : ℕ) → bytes ≡ text → All IsPlain text → count ≡ min (length bytes - 36 * number) 36
    → map plain (take (36 * number + count - 36 * number) (drop (36 * number) bytes)) ≡ text_line text number
line_is text bytes number count same plain_is is =
    let rest = drop (36 * number) text in
    let all : length rest ≡ length bytes - 36 * number = length-drop (36 * number) text ∙ ap (λ (l : List ℕ). length l - 36 * number) (sym same) in
    let taken : 36 * number + count - 36 * number ≡ min 36 (length rest) = omega (arith, is, all) in
    ap₂ (λ (n : ℕ) (l : List ℕ). map plain (take n (drop (36 * number) l))) taken same
    ∙ ap (λ (l : List ℕ). map plain l) (take_min 36 rest)
    ∙ plain_again (take 36 rest) (All-take IsPlain 36 rest (All-drop IsPlain (36 * number) text plain_is))

-- ---- one more line is written

pub effect_more : (lanes line : ℕ) (effect : List ℕ) (n : ℕ)
    → effect_lines lanes line effect (n + 1) ≡ effect_lines lanes line effect n ++ (effect_line lanes line effect n ++ 10 ∷ [])
effect_more lanes line effect n = ap (effect_lines lanes line effect) (add-one n)
