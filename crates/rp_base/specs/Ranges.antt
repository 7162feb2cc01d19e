-- Ranges of positions, for which a leader asks once. Lamport, "Paxos Made Simple", section 3: a new
-- leader executes phase 1 for all later instances in one message. That a range has at most 64
-- positions is ours.
use Rattle.std.specs.Prelude.{ℕ, ◌+◌, ◌≤◌, ◌^◌, Bool, not, ◌&&◌, nat_le, nat_lt, List, Result, Ok}
use Rattle.std.specs.Prelude.{Err, if◌then◌else◌}
use Rattle.std.specs.List.{range_with_len}
use Rattle.rp_base.specs.Number.{IsPosition, in_range}
use Rattle.rp_base.specs.declared.fault.Fault.{Fault}
use Rattle.rp_base.specs.declared.fault.Fault.TheVariants.{LogFull, BadConfig}

-- positions that follow one another: the first, and how many they are
pub record Range : Type 0 where
  pub first : ℕ
  pub count : ℕ

-- a range has 1 to 64 positions
abbrev pub IsRangeCount : ℕ → Type 0
IsRangeCount count = (1 ≤ count) × (count ≤ 64)

-- the position after the last of a range
abbrev pub end_of : Range → ℕ
end_of range = range.first + range.count

-- each position of the range is one
pub record IsRange (range : Range) : Type 0 where
  pub first : IsPosition range.first
  pub count : IsRangeCount range.count
  pub last : end_of range ≤ 2 ^ 16

-- the positions of a range, rising
abbrev pub positions_of : Range → List ℕ
positions_of range = range_with_len range.first range.count

-- the position is one of the range
abbrev pub is_covered : Range → ℕ → Bool
is_covered range i = nat_le range.first i && nat_lt i (end_of range)

-- The range of n positions from the first on. A wrong count is reported before a last position
-- above the greatest.
abbrev pub range_of : ℕ → ℕ → Result Range Fault
range_of first count =
    if not (in_range 1 64 count) then Err BadConfig
    else if nat_lt (2 ^ 16) (first + count) then Err LogFull
    else Ok (record { first = first; count = count })
