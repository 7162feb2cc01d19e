-- Majorities. Lamport, "Paxos Made Simple", section 2.2.
use Rattle.std.specs.Prelude.{ℕ, ◌+◌, ◌/◌, ◌≤◌, Bool, nat_le, List, length, filter}
use Rattle.rp_base.specs.Number.{in_range}
use Rattle.rp_base.specs.Sets.{Has, IsSet}

-- the least number that is more than half of n
abbrev pub majority_of : ℕ → ℕ
majority_of n = n / 2 + 1

-- some of the nodes 1 to n, none of them twice
pub record AreNodes (n : ℕ) (xs : List ℕ) : Type 0 where
  pub members : (x : ℕ) → Has x xs → (1 ≤ x) × (x ≤ n)
  pub distinct : IsSet xs

-- those of the senders that are nodes 1 to n
abbrev pub nodes_among : ℕ → List ℕ → List ℕ
nodes_among n senders = filter (in_range 1 n) senders

-- the senders that are nodes 1 to n are more than half of these
abbrev pub is_majority : ℕ → List ℕ → Bool
is_majority n senders = nat_le (majority_of n) (length (nodes_among n senders))
