use Rattle.std.proofs.Common.{◌≡◌, ◌++◌, map, deque_capacity}
use Rattle.rp_base.specs.Proposals.{range_proposal}
use Rattle.rp_proposer.specs.Proposing.{unskipped}
use Rattle.rp_proposer.proofs.Starting.{open_from}
use Rattle.rp_proposer.proofs.proposer.push_each.Given as goal

-- with those of the rest of the positions the proposals are those with all
abbrev pub invariant-loop-index : goal.invariant-loop-index
invariant-loop-index l = record {
  rest : l.proposals.items ++ map (range_proposal l.ballot) (open_from l.skip l.range.first l.range.count l.index)
      ≡ l.fn.proposals.items ++ map (range_proposal l.ballot) (unskipped l.range l.skip);
  room : deque_capacity l.proposals ≡ deque_capacity l.fn.proposals;
}
