use Rattle.std.proofs.Common.{◌≤◌, ◌-◌, length, drop}
use Rattle.rp_proposer.specs.Room.{Rises}
use Rattle.rp_proposer.proofs.proposer.ascend.Given as goal

-- all ascend if the rest do, from the least position that may follow on
abbrev pub invariant-loop-index : goal.invariant-loop-index
invariant-loop-index l = record {
  bound : l.index ≤ length l.proposals.items;
  least : l.least ≤ 65536;
  rest : Rises l.least (drop l.index l.proposals.items) → Rises 0 l.proposals.items;
}

abbrev pub decreases-loop-index : goal.decreases-loop-index
decreases-loop-index l = length l.proposals.items - l.index
