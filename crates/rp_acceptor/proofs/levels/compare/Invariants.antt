use Rattle.std.proofs.Common.{◌≡◌, ◌+◌, ◌-◌, ◌<◌, ◌≤◌, length}
use Rattle.std.specs.List.{AllWithin, range_with_len}
use Rattle.rp_base.specs.Ranges.{end_of, positions_of}
use Rattle.rp_acceptor.specs.Comparing.{compared, followed_by}
use Rattle.rp_acceptor.specs.Levels.{holding_ballot}
use Rattle.rp_acceptor.proofs.levels.compare.Given as goal

-- the levels up to the count begin at the position or below, the others there or above, and what was found up to
-- the position with what the rest has is what all have
abbrev pub invariant-loop-count : goal.invariant-loop-count
invariant-loop-count l = record {
  bound : l.count ≤ length l.levels;
  first : l.range.first ≤ l.position;
  last : l.position ≤ end_of l.range;
  below : AllWithin (λ s. s.from < l.position + 1) l.levels 0 l.count;
  above : AllWithin (λ s. l.position ≤ s.from) l.levels l.count (length l.levels);
  so_far : followed_by l.found (compared (holding_ballot l.levels) l.ballot (range_with_len l.position (end_of l.range - l.position)))
      ≡ compared (holding_ballot l.levels) l.ballot (positions_of l.range);
}

abbrev pub decreases-loop-count : goal.decreases-loop-count
decreases-loop-count l = length l.levels - l.count
