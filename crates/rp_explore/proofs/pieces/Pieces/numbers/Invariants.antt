use Rattle.std.proofs.Common.{◌-◌, ◌≤◌, take, drop}
use Rattle.rp_explore.proofs.PieceLemmas.{IsNumbered}
use Rattle.rp_explore.proofs.pieces.Pieces.numbers.Given as goal

-- the lines so far have their numbers, and the text goes on with a line that has begun
abbrev pub invariant-loop-at : goal.invariant-loop-at
invariant-loop-at l = (l.start ≤ l.at) × IsNumbered l.fn.self l.self l.numbers.items (take (l.at - l.start) (drop l.start l.text)) l.at l.text
