-- Tests of numbers that are within their ranges.
use Rattle.std.proofs.Common.{◌≡◌, ℕ, suc, ◌≤◌, ◌<◌, ◌^◌, true, false, arith, le-leb}
use Rattle.std.specs.Prelude.{nat_lt}
use Rattle.std.proofs.lemmas.Bool.{and_from}
use Rattle.std.proofs.lemmas.Bool.Decides.{nat_tests}
use Rattle.rp_base.specs.Calls.{are_exhausted}
use Rattle.rp_base.specs.Number.{in_range}

pub up_to : (most n : ℕ) → 1 ≤ n → n ≤ most → in_range 1 most n ≡ true
up_to most n low high = and_from _ _ (le-leb 1 n low) (le-leb n most high)

pub not_below : (nodes node : ℕ) → node ≤ nodes → nat_lt nodes node ≡ false
not_below nodes node within = grind (arith, nat_tests)

pub not_exhausted : (n : ℕ) → suc n < 2 ^ 32 → are_exhausted n ≡ false
not_exhausted n near = grind (arith, nat_tests)
