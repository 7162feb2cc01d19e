use Rattle.std.proofs.Common.{◌≡◌, ◌+◌, drop}
use Rattle.rp_acceptor.specs.Comparing.{compared_bounds, followed_by}
use Rattle.rp_acceptor.specs.Slots.{bounds_from}
use Rattle.rp_acceptor.proofs.places.compare.Given as goal

-- what was found so far with what the rest has is what all have
abbrev pub invariant-loop-offset : goal.invariant-loop-offset
invariant-loop-offset l =
    followed_by l.found (compared_bounds l.ballot (bounds_from (l.range.first + l.first + l.offset) (drop l.offset l.places)))
    ≡ compared_bounds l.ballot (bounds_from (l.range.first + l.first) l.places)
