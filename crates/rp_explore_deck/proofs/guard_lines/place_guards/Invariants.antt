use Rattle.std.proofs.Common.{◌≡◌, [], drop}
use Rattle.rp_explore_deck.specs.GuardLines.{guards_of}
use Rattle.rp_explore_deck.proofs.guard_lines.place_guards.Given as goal

-- those placed and those that are left are all
abbrev pub invariant-loop-guard : goal.invariant-loop-guard
invariant-loop-guard l =
    guards_of l.planned l.placed.items (drop l.guard-index l.guards) ≡ guards_of l.planned [] l.guards
