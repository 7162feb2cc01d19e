use Rattle.std.proofs.Common.{◌≡◌, ◌^◌, ◌+◌, ◌<◌, ◌≤◌, get_or, length, take, true, arith, rules, take_all, sym, ◌∙◌}
use Rattle.std.specs.Char.{is_ascii_digit}
use Rattle.std.specs.List.{list_all}
use Rattle.std.specs.Str.Parse.{digits_value}
use Rattle.std.proofs.lemmas.List.Folds.{list_all_more}
use Rattle.rp_words.proofs.WordsLemmas.{next_size, too_large, size_is, and_true}
use Rattle.rp_words.proofs.words.read_digits.Goals as goal

pub returns-in_err-checked_mul : goal.returns-in_err-checked_mul
returns-in_err-checked_mul c =
    let digits = c.args.digits.now in
    let i = c.loop-byte.byte-index in
    let next = next_size digits i c.loop-byte-test.true (search rules) in
    let large : 2 ^ 64 ≤ digits_value 10 (take (i + 1) digits) = grind arith in
    rw (too_large digits (i + 1) large) (search rules)

pub returns-in_err-size : goal.returns-in_err-size
returns-in_err-size c =
    let digits = c.args.digits.now in
    let i = c.loop-byte.byte-index in
    let next = next_size digits i c.loop-byte-test.true (search rules) in
    let large : 2 ^ 64 ≤ digits_value 10 (take (i + 1) digits) = grind arith in
    rw (too_large digits (i + 1) large) (search rules)

pub loop-byte-preserved : goal.loop-byte-preserved
loop-byte-preserved c =
    let digits = c.args.digits.now in
    let i = c.loop-byte.byte-index in
    let digit : is_ascii_digit (get_or digits i 0) ≡ true = search rules in
    let next = next_size digits i c.loop-byte-test.true digit in
    record {
      digits = list_all_more is_ascii_digit digits i 0 c.loop-byte-test.true ∙ and_true (list_all is_ascii_digit (take i digits)) (is_ascii_digit (get_or digits i 0)) c.loop-byte.invariant.digits digit;
      size = grind arith;
      small = grind arith;
    }

pub returns : goal.returns
returns c =
    let digits = c.args.digits.now in
    let whole = take_all c.loop-byte.byte-index digits (omega arith) in
    let all = rw whole at c.loop-byte.invariant.digits in
    let size = rw whole at c.loop-byte.invariant.size in
    let some : 0 < length digits = grind arith in
    rw size (sym (size_is digits some all (rw (← size) c.loop-byte.invariant.small)))
