-- What the tests of the fields decide.
use Rattle.std.proofs.Common.{ℕ, arith}
use Rattle.std.specs.Bool.{Decides}
use Rattle.std.proofs.lemmas.Bool.Decides.{nat_tests}
use Rattle.rp_base.specs.Number.{IsNode}
use Rattle.rp_base.specs.Ballot.{IsBallot}
use Rattle.rp_codec.specs.Reading.{is_node, is_ballot}

pub is_ballot_decides : (n : ℕ) → Decides (is_ballot n) (IsBallot n)
is_ballot_decides n = grind (arith, nat_tests)

pub is_node_decides : (n : ℕ) → Decides (is_node n) (IsNode n)
is_node_decides n = grind (arith, nat_tests)
