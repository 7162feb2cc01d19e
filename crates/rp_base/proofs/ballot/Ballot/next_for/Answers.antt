use Rattle.std.proofs.Common.{◌+◌, ◌*◌, rules}
use Rattle.rp_base.specs.Ballot.{IsAbove, number_of}
use Rattle.rp_base.proofs.ballot.Ballot.next_for.Goals as goal

-- the ballot that was found is one above
pub returns-clause-exhausted : goal.returns-clause-exhausted
returns-clause-exhausted c =
    let found : IsAbove c.args.node (number_of c.args.above) (8 * c.if-owner-node_number.next + c.from-node_number.result) = search rules in
    (λ e. cc, λ none. absurd (none _ found))
