-- Which messages are settled.
use Rattle.std.specs.Prelude.{ℕ, Bool, ◌&&◌, ◌||◌, nat_le, nat_lt, List}
use Rattle.rp_run.specs.NextNumbers.{is_passed}
use Rattle.rp_run.specs.declared.settled.Settled.{Settled}

-- a number from 1 to the one before `least`, or one that is passed
abbrev pub is_settled_by : ℕ → List ℕ → ℕ → Bool
is_settled_by least next m = (nat_le 1 m && nat_lt m least) || is_passed next m

-- the message of this number is settled
abbrev pub is_settled : Settled → ℕ → Bool
is_settled s m = is_settled_by s.least s.next.items m

abbrev pub least_of : Settled → ℕ
least_of s = s.least
