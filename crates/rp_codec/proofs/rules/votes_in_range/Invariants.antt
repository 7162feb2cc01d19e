use Rattle.std.proofs.Common.{take}
use Rattle.std.specs.Prelude.{All}
use Rattle.rp_base.specs.Ballot.{IsBallot}
use Rattle.rp_codec.proofs.rules.votes_in_range.Given as goal

abbrev pub invariant-loop-placed : goal.invariant-loop-placed
invariant-loop-placed l = All (λ placed. IsBallot placed.vote.ballot) (take l.placed-index l.votes)
