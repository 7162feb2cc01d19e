-- Which numbers name nodes, tasks and positions (the limits are ours), and the greatest of some.
use Rattle.std.specs.Prelude.{ℕ, Bool, ◌<◌, ◌≤◌, ◌^◌, ◌&&◌, nat_le, max, List, [], ◌∷◌}

-- the number is 1 to `most`
abbrev pub IsUpTo : ℕ → ℕ → Type 0
IsUpTo most n = (1 ≤ n) × (n ≤ most)

-- a node is 1 to 7
abbrev pub IsNode : ℕ → Type 0
IsNode n = IsUpTo 7 n

-- a task is 1 to 8
abbrev pub IsTask : ℕ → Type 0
IsTask n = IsUpTo 8 n

-- a position of the log is 1 to 65,535
abbrev pub IsPosition : ℕ → Type 0
IsPosition n = (1 ≤ n) × (n < 2 ^ 16)

-- at how many positions from the first unlearned one on a node leads and counts votes
abbrev pub window : ℕ
window = 64

-- the number is low to high, as a test
abbrev pub in_range : ℕ → ℕ → ℕ → Bool
in_range low high n = nat_le low n && nat_le n high

-- the greatest of some numbers, 0 if there is none
abbrev pub greatest : List ℕ → ℕ
greatest [] = 0
greatest (n ∷ rest) = max n (greatest rest)
