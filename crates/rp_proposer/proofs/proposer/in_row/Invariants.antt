use Rattle.std.proofs.Common.{◌≡◌, ◌+◌, ◌-◌, ◌≤◌, length, drop}
use Rattle.rp_proposer.specs.Rows.{in_row}
use Rattle.rp_proposer.proofs.proposer.in_row.Given as goal

-- what was counted, and what is counted of the rest, is what is counted of all
abbrev pub invariant-loop-count : goal.invariant-loop-count
invariant-loop-count l = record {
  bound : l.count ≤ length l.proposals.items;
  rest : l.count + in_row l.nodes (l.first + l.count) (drop l.count l.proposals.items) ≡ in_row l.nodes l.first l.proposals.items;
}

abbrev pub decreases-loop-count : goal.decreases-loop-count
decreases-loop-count l = length l.proposals.items - l.count
