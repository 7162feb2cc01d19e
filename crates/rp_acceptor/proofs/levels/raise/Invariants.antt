use Rattle.std.proofs.Common.{◌≡◌, ◌≤◌, ◌-◌, ◌++◌, length, map, take, drop}
use Rattle.std.specs.List.{AllWithin}
use Rattle.rp_acceptor.specs.Levels.{raised_level}
use Rattle.rp_acceptor.proofs.levels.raise.Given as goal

-- the levels up to the index are raised, the others are as they were
abbrev pub invariant-loop-index : goal.invariant-loop-index
invariant-loop-index l = record {
  raised : l.levels.items ≡ map (raised_level l.first l.end l.ballot) (take l.index l.fn.levels.items) ++ drop l.index l.fn.levels.items;
  long : length l.levels.items ≡ length l.fn.levels.items;
  bound : l.index ≤ length l.fn.levels.items;
  above : AllWithin (λ s. l.first ≤ s.from) l.fn.levels.items l.index (length l.fn.levels.items);
}

abbrev pub decreases-loop-index : goal.decreases-loop-index
decreases-loop-index l = length l.levels.items - l.index
