-- A set of nodes as a mask: bit k is set where node k is in the set.
use Rattle.std.specs.Prelude.{ℕ, ◌-◌, ◌/◌, ◌^◌, nat_eq, List, [], ◌∷◌, filter}
use Rattle.std.specs.Int.{bit_at}

-- all nodes that there may be
abbrev pub all_nodes : List ℕ
all_nodes = 1 ∷ 2 ∷ 3 ∷ 4 ∷ 5 ∷ 6 ∷ 7 ∷ []

-- the nodes in a mask, by rising number
abbrev pub nodes_in : ℕ → List ℕ
nodes_in mask = filter (λ k. nat_eq (bit_at mask k) 1) all_nodes

-- the bits 0 to n of a byte, for n up to 7
abbrev pub low_bits : ℕ → ℕ
low_bits n = 255 / 2 ^ (7 - n)
