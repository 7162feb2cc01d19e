-- The numbers that are passed over: for each of them a later number is stored.
use Rattle.std.specs.Prelude.{◌≡◌, ℕ, Bool, true, ◌<◌, ◌≤◌, nat_lt, List, length}
use Rattle.std.specs.Prelude.{slice_index_or}

-- the number that is stored for a number; the number itself where none is
abbrev pub next_of : List ℕ → ℕ → ℕ
next_of next m = slice_index_or next m m

-- a later number is stored for it
abbrev pub is_passed : List ℕ → ℕ → Bool
is_passed next m = nat_lt m (next_of next m)

-- From this number on: where a later number is stored for one, it is at most their count, and all
-- numbers before it are passed.
pub record LeadsOn (from : ℕ) (next : List ℕ) : Type 0 where
  pub within : (m : ℕ) → from ≤ m → m < next_of next m → next_of next m ≤ length next
  pub passed : (m k : ℕ) → from ≤ m → m ≤ k → k < next_of next m → is_passed next k ≡ true
