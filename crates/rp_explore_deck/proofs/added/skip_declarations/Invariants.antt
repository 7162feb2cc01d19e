use Rattle.std.proofs.Common.{◌≡◌, length}
use Rattle.rp_explore_deck.specs.AddedLines.{after_script}
use Rattle.rp_words.specs.Ahead.{left, ahead}
use Rattle.rp_explore_deck.proofs.added.skip_declarations.Given as goal

-- `script` is among the lines that are left
abbrev pub invariant-loop-line : goal.invariant-loop-line
invariant-loop-line l = after_script (ahead l.lines) ≡ after_script (ahead l.fn.lines)

abbrev pub decreases-loop-line : goal.decreases-loop-line
decreases-loop-line l = length (left l.lines)
