-- Lines that are numbered.
use Rattle.std.specs.Prelude.{ℕ, zero, suc, ◌+◌, List, [], ◌∷◌, ◌++◌}

-- the lines of each of these, whose numbers begin with this one
abbrev pub numbered : {X : Type 0} → (ℕ → X → List ℕ) → ℕ → List X → List ℕ
numbered lines number [] = []
numbered lines number (x ∷ rest) = lines number x ++ numbered lines (number + 1) rest

-- the text of each number below this one, in order
abbrev pub each_below : (ℕ → List ℕ) → ℕ → List ℕ
each_below text zero = []
each_below text (suc n) = each_below text n ++ text n
