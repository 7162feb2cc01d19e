use Rattle.std.proofs.Common.{◌≡◌, ◌+◌, ◌-◌, nat_eq, deque_capacity}
use Rattle.std.specs.Prelude.{filter, not}
use Rattle.std.specs.Int.{bit_at}
use Rattle.std.specs.List.{range_with_len}
use Rattle.rp_base.specs.Proposals.{with_range}
use Rattle.rp_proposer.specs.Proposing.{unskipped}
use Rattle.rp_proposer.proofs.proposer.put_each.Given as goal

-- with the rest of the positions the proposals are those with all
abbrev pub invariant-loop-index : goal.invariant-loop-index
invariant-loop-index l = record {
  rest : with_range l.proposals.items l.ballot (filter (λ i. not (nat_eq (bit_at l.skip (i - l.range.first)) 1)) (range_with_len (l.range.first + l.index) (l.range.count - l.index)))
      ≡ with_range l.fn.proposals.items l.ballot (unskipped l.range l.skip);
  room : deque_capacity l.proposals ≡ deque_capacity l.fn.proposals;
}
