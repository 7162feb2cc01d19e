use Rattle.std.proofs.Common.{◌≡◌, ◌+◌, ◌≤◌, ◌++◌, drop, length}
use Rattle.rp_acceptor.specs.Slots.{votes_from}
use Rattle.rp_acceptor.proofs.places.push.Given as goal

-- the votes so far with those of the rest are all, and there is at most one for each place
abbrev pub invariant-loop-offset : goal.invariant-loop-offset
invariant-loop-offset l = record {
  all : l.votes ++ votes_from (l.range.first + l.first + l.offset) (drop l.offset l.places) ≡ l.fn.votes ++ votes_from (l.range.first + l.first) l.places;
  few : length l.votes ≤ length l.fn.votes + l.offset;
}
