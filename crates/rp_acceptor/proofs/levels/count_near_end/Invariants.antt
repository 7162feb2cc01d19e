use Rattle.std.proofs.Common.{◌≤◌, length}
use Rattle.std.specs.List.{AllWithin}
use Rattle.rp_acceptor.proofs.levels.count_near_end.Given as goal

-- the levels from the count on begin at or above the position
abbrev pub invariant-loop : goal.invariant-loop
invariant-loop l = record {
  bound : l.count ≤ length l.levels;
  not_below : AllWithin (λ s. l.position ≤ s.from) l.levels l.count (length l.levels);
}
