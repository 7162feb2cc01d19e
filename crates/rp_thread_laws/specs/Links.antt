-- What a link makes of a packet, by the sixteen words that there are modulo 16.
use Rattle.std.specs.Prelude.{ℕ, List, [], ◌∷◌, ◌++◌, replicate}

-- the copies of a packet that a link makes at the words 0 to 15: none at two of them, two at two,
-- and one at twelve
abbrev pub copies_by_word : List ℕ → List (List (List ℕ))
copies_by_word packet =
    [] ∷ [] ∷ (packet ∷ packet ∷ []) ∷ (packet ∷ packet ∷ []) ∷ replicate 12 (packet ∷ [])
