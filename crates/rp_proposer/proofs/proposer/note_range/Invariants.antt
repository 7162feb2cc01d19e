use Rattle.std.proofs.Common.{◌≡◌, ◌≤◌, ◌-◌, ◌++◌, length, map, take, drop, deque_capacity}
use Rattle.rp_base.specs.Proposals.{once_promised}
use Rattle.rp_proposer.proofs.proposer.note_range.Given as goal

-- the promise is noted at the proposals up to the index, the others are as they were
abbrev pub invariant-loop-index : goal.invariant-loop-index
invariant-loop-index l = record {
  noted : l.proposals.items ≡ map (once_promised l.nodes l.heard.from l.heard.range l.heard.ballot l.heard.votes.now) (take l.index l.fn.proposals.items) ++ drop l.index l.fn.proposals.items;
  long : length l.proposals.items ≡ length l.fn.proposals.items;
  bound : l.index ≤ length l.fn.proposals.items;
  room : deque_capacity l.proposals ≡ deque_capacity l.fn.proposals;
}

abbrev pub decreases-loop-index : goal.decreases-loop-index
decreases-loop-index l = length l.proposals.items - l.index
