-- By computing.
use Rattle.std.proofs.Common.{◌≡◌, [], ◌∷◌, arith}
use Rattle.std.specs.Prelude.{decimal}
use Rattle.std.proofs.lemmas.Fmt.{decimal_digit}
use Rattle.rp_explore_run.proofs.laws.reports_say_what_was_found.Goals as goal

digit_1 : decimal 1 ≡ 49 ∷ []
digit_1 = decimal_digit 1 (omega arith)

digit_2 : decimal 2 ≡ 50 ∷ []
digit_2 = decimal_digit 2 (omega arith)

digit_3 : decimal 3 ≡ 51 ∷ []
digit_3 = decimal_digit 3 (omega arith)

digit_4 : decimal 4 ≡ 52 ∷ []
digit_4 = decimal_digit 4 (omega arith)

digit_5 : decimal 5 ≡ 53 ∷ []
digit_5 = decimal_digit 5 (omega arith)

digit_6 : decimal 6 ≡ 54 ∷ []
digit_6 = decimal_digit 6 (omega arith)

digit_7 : decimal 7 ≡ 55 ∷ []
digit_7 = decimal_digit 7 (omega arith)

digit_8 : decimal 8 ≡ 56 ∷ []
digit_8 = decimal_digit 8 (omega arith)

digit_9 : decimal 9 ≡ 57 ∷ []
digit_9 = decimal_digit 9 (omega arith)

ruleset digits = (digit_1, digit_2, digit_3, digit_4, digit_5, digit_6, digit_7, digit_8, digit_9)

pub returns : goal.returns
returns c = record {
  whole = λ report figures outcomes held. simp (figures, outcomes, held, digits);
  part = λ report figures outcomes held. simp (figures, outcomes, held, digits);
}
