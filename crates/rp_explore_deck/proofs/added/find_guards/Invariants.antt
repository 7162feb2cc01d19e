use Rattle.std.proofs.Common.{◌≡◌, [], length}
use Rattle.rp_explore_deck.specs.AddedLines.{guards_after}
use Rattle.rp_words.specs.Ahead.{left, ahead}
use Rattle.rp_explore_deck.proofs.added.find_guards.Given as goal

-- those known and those of the lines that are left are those of all
abbrev pub invariant-loop-line : goal.invariant-loop-line
invariant-loop-line l =
    guards_after l.guards.keys (ahead l.lines) ≡ guards_after [] (ahead l.fn.lines)

abbrev pub decreases-loop-line : goal.decreases-loop-line
decreases-loop-line l = length (left l.lines)
