-- Names in a list: which are there, and where.
use Rattle.std.specs.Prelude.{ℕ, ◌≡◌, ◌+◌, Bool, true, List, [], ◌∷◌, if◌then◌else◌}
use Rattle.std.specs.List.{list_any}
use Rattle.std.specs.Str.{bytes_eq}

-- the name is one of these
abbrev pub is_among : List ℕ → List (List ℕ) → Bool
is_among name names = list_any (bytes_eq name) names

abbrev pub IsAmong : List ℕ → List (List ℕ) → Type 0
IsAmong name names = is_among name names ≡ true

-- how many of these are before it
abbrev pub place_in : List ℕ → List (List ℕ) → ℕ
place_in name [] = 0
place_in name (first ∷ rest) = if bytes_eq name first then 0 else place_in name rest + 1

-- its number: 1 for the first
abbrev pub number_in : List ℕ → List (List ℕ) → ℕ
number_in name names = place_in name names + 1
