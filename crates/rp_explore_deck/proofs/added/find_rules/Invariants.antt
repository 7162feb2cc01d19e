use Rattle.std.proofs.Common.{◌≡◌, [], length}
use Rattle.rp_explore_deck.specs.AddedLines.{rules_after}
use Rattle.rp_words.specs.Ahead.{left, ahead}
use Rattle.rp_explore_deck.proofs.added.find_rules.Given as goal

-- the rules before the lines that are left are those known
abbrev pub invariant-loop-line : goal.invariant-loop-line
invariant-loop-line l =
    rules_after l.rules.keys (ahead l.lines) ≡ rules_after [] (ahead l.fn.lines)

abbrev pub decreases-loop-line : goal.decreases-loop-line
decreases-loop-line l = length (left l.lines)
