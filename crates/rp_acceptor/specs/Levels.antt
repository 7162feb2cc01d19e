-- The ballots that an acceptor promised for ranges, as levels: each holds from its position up to
-- the next one (callers see none of it).
use Rattle.std.specs.Prelude.{◌≡◌, ◌<◌, ◌≤◌, ◌⊎◌, ℕ, zero, suc, max, Bool, false, ◌&&◌, nat_eq}
use Rattle.std.specs.Prelude.{Option, Some, None, nat_le, nat_lt, List, [], ◌∷◌, length}
use Rattle.std.specs.Prelude.{if◌then◌else◌}
use Rattle.std.specs.List.{AllWithin}
use Rattle.std.specs.List.Sorted.{IsNonDecreasingBy}
use Rattle.rp_base.specs.Ballot.{IsBallot}

-- a ballot's number, or 0 where nothing is promised
abbrev pub IsPromised : ℕ → Type 0
IsPromised number = (number ≡ 0) ⊎ IsBallot number

-- a level: the position from which its ballot holds, and the ballot, or 0 where nothing is promised
pub record Level : Type 0 where
  pub from : ℕ
  pub ballot : ℕ

-- the levels are in the order of their positions
abbrev pub IsRising : List Level → Type 0
IsRising levels = IsNonDecreasingBy (λ s. s.from) levels

-- this many of the first levels begin below a position, and the others do not
pub record IsCountBelow (levels : List Level) (i count : ℕ) : Type 0 where
  pub bound : count ≤ length levels
  pub below : AllWithin (λ s. s.from < i) levels 0 count
  pub not_below : AllWithin (λ s. i ≤ s.from) levels count (length levels)

-- the ballot that holds at a position, where another holds before the first level
abbrev pub ballot_after : ℕ → List Level → ℕ → ℕ
ballot_after before [] i = before
ballot_after before (level ∷ rest) i =
    if nat_le level.from i then ballot_after level.ballot rest i else before

-- the ballot that holds at a position, or 0
abbrev pub holding_ballot : List Level → ℕ → ℕ
holding_ballot levels i = ballot_after 0 levels i

-- the ballot of the last of this many levels, where another holds before the first
abbrev pub ballot_before : ℕ → List Level → ℕ → ℕ
ballot_before before [] count = before
ballot_before before (level ∷ rest) zero = before
ballot_before before (level ∷ rest) (suc count) = ballot_before level.ballot rest count

-- a level begins at the position
abbrev pub HasLevel : List Level → ℕ → Type 0
HasLevel [] i = ⊥
HasLevel (level ∷ rest) i = (level.from ≡ i) ⊎ HasLevel rest i

-- it is a level, and begins at the position
abbrev pub begins_at : ℕ → Option Level → Bool
begins_at i None = false
begins_at i (Some level) = nat_eq level.from i

-- the position is from the first on and below the end
abbrev pub is_between : ℕ → ℕ → ℕ → Bool
is_between first end i = nat_le first i && nat_lt i end

-- a ballot raised to at least this one between two positions
abbrev pub raised_at : ℕ → ℕ → ℕ → ℕ → ℕ → ℕ
raised_at first end b i ballot = if is_between first end i then max ballot b else ballot

-- a level with its ballot raised, if it begins between the two positions
abbrev pub raised_level : ℕ → ℕ → ℕ → Level → Level
raised_level first end b level =
    record level { ballot = raised_at first end b level.from level.ballot }
