-- All letters, and two dots where some are left out.
use Rattle.std.proofs.Common.{◌≡◌, ◌∙◌, ℕ, ◌≤◌, ◌<◌, Bool, true, false, List, ◌++◌, length, map, take, arith, refl, sym, ap, ap₂}
use Rattle.std.specs.Prelude.{min, nat_le, nat_lt}
use Rattle.std.proofs.lemmas.Bool.Decides.{nat_tests}
use Rattle.std.proofs.lemmas.List.{take_all}
use Rattle.rp_drawing.specs.Words.{dots, fitted_text, plain}
use Rattle.rp_drawing.proofs.words.Words.fitted.Goals as goal

fitted_all : (bytes : List ℕ) (count : ℕ) → count ≡ min (length bytes) 36
    → map plain (take count bytes) ++ dots (nat_lt count (length bytes)) ≡ fitted_text bytes
fitted_all bytes count is = at (nat_le 36 (length bytes)) refl
  where
    at : (b : Bool) → nat_le 36 (length bytes) ≡ b → map plain (take count bytes) ++ dots (nat_lt count (length bytes)) ≡ fitted_text bytes
    at true long =
        let many : 36 ≤ length bytes = grind (arith, nat_tests, long) in
        let same : count ≡ 36 = omega (arith, is, many) in
        ap (λ (n : ℕ). map plain (take n bytes) ++ dots (nat_lt n (length bytes))) same
    at false short =
        let few : length bytes < 36 = grind (arith, nat_tests, short) in
        let same : count ≡ length bytes = omega (arith, is, few) in
        let whole : take count bytes ≡ take 36 bytes = take_all count bytes (omega (arith, same)) ∙ sym (take_all 36 bytes (omega (arith, few))) in
        let uncut : nat_lt count (length bytes) ≡ nat_lt 36 (length bytes) = grind (arith, nat_tests, same, few) in
        ap₂ (λ (l : List ℕ) (b : Bool). map plain l ++ dots b) whole uncut

pub returns : goal.returns
returns c =
    let bytes = c.args.bytes.now in
    let count = c.min-count.result in
    c.in_ok-add_dots.ensures.added
    ∙ ap (λ (l : List ℕ). l ++ dots (nat_lt count (length bytes))) c.in_ok-text.ensures.letters
    ∙ fitted_all bytes count c.min-count.ensures
