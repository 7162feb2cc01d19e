use Rattle.std.proofs.Common.{◌≡◌, ◌+◌, ◌≤◌, ◌++◌, drop, length}
use Rattle.rp_acceptor.specs.Slots.{votes_from}
use Rattle.rp_acceptor.proofs.places.append.Given as goal

-- the votes so far with those of the rest are all, and none is gone
abbrev pub invariant-loop-offset : goal.invariant-loop-offset
invariant-loop-offset l = record {
  all : l.votes.items ++ votes_from (l.range.first + l.first + l.offset) (drop l.offset l.places) ≡ l.fn.votes.items ++ votes_from (l.range.first + l.first) l.places;
  more : length l.fn.votes.items ≤ length l.votes.items;
}
