-- Numbers of one digit as texts.
use Rattle.std.proofs.Common.{◌≡◌, [], ◌∷◌, arith}
use Rattle.std.specs.Prelude.{decimal}
use Rattle.std.proofs.lemmas.Fmt.{decimal_digit}

pub digit_0 : decimal 0 ≡ 48 ∷ []
digit_0 = decimal_digit 0 (omega arith)

pub digit_1 : decimal 1 ≡ 49 ∷ []
digit_1 = decimal_digit 1 (omega arith)

pub digit_2 : decimal 2 ≡ 50 ∷ []
digit_2 = decimal_digit 2 (omega arith)

pub digit_3 : decimal 3 ≡ 51 ∷ []
digit_3 = decimal_digit 3 (omega arith)

pub digit_5 : decimal 5 ≡ 53 ∷ []
digit_5 = decimal_digit 5 (omega arith)

pub digit_7 : decimal 7 ≡ 55 ∷ []
digit_7 = decimal_digit 7 (omega arith)

pub ruleset digits = (digit_0, digit_1, digit_2, digit_3, digit_5, digit_7)
