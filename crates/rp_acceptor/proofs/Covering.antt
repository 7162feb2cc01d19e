-- The positions of a range.
use Rattle.std.proofs.Common.{◌≡◌, ℕ, zero, suc, ◌≤◌, [], arith}
use Rattle.std.specs.List.{range_with_len}
use Rattle.rp_base.specs.Ranges.{Range, IsRange, positions_of}

some_there : (first n : ℕ) → 1 ≤ n → ¬ (range_with_len first n ≡ [])
some_there first zero some none = absurd (omega (arith, some))
some_there first (suc n) some none = absurd (cc)

-- a range has a position
pub positions_there : (range : Range) → IsRange range → ¬ (positions_of range ≡ [])
positions_there range is = some_there range.first range.count is.count.0
