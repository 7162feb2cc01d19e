use Rattle.std.proofs.Common.{length}
use Rattle.rp_deck_hints.proofs.candidates.names_before.Given as goal

abbrev pub invariant-loop-line : goal.invariant-loop-line
invariant-loop-line l = Unit {0}

abbrev pub decreases-loop-line : goal.decreases-loop-line
decreases-loop-line l = length l.lines.rest.now
