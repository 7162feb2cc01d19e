-- Texts as lists of their lines, each line by its number.
use Rattle.std.specs.Prelude.{◌≡◌, ℕ, nat_eq, Some, List, [], ◌∷◌, ◌++◌, slice_get, if◌then◌else◌}

-- the lines of a text, each with its line feed, and what follows the last; the first goes on from a
-- start
abbrev pub lines_from : List ℕ → List ℕ → List (List ℕ)
lines_from start [] = start ∷ []
lines_from start (byte ∷ rest) =
    if nat_eq byte 10 then (start ++ byte ∷ []) ∷ lines_from [] rest
    else lines_from (start ++ byte ∷ []) rest

abbrev pub lines_of : List ℕ → List (List ℕ)
lines_of text = lines_from [] text

-- each of the lines is that of its number, from 0
abbrev pub AreNumbers : List (List ℕ) → List ℕ → List (List ℕ) → Type 0
AreNumbers known [] [] = Unit {0}
AreNumbers known (number ∷ numbers) (line ∷ lines) =
    (slice_get known number ≡ Some line) × AreNumbers known numbers lines
AreNumbers known _ _ = ⊥

-- more lines may be known, after those that were
abbrev pub AreMore : List (List ℕ) → List (List ℕ) → Type 0
AreMore old new = (more : List (List ℕ)) × (new ≡ old ++ more)
