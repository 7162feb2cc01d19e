use Rattle.std.proofs.Common.{ℕ, ◌<◌}
use Rattle.std.specs.Prelude.{slice_index_or}
use Rattle.rp_deck.specs.Script.{KeepsRanges}
use Rattle.rp_deck.specs.declared.deck.Line.{Line}
use Rattle.rp_run.proofs.agreement.lines_keep_ranges.Given as goal

-- so does each line that was passed
abbrev pub invariant-loop-line : goal.invariant-loop-line
invariant-loop-line l = (k : ℕ) (d : Line) → k < l.line-index → KeepsRanges (slice_index_or l.lines k d).command
