use Rattle.std.proofs.Common.{◌≡◌, ◌++◌, string_bytes, take}
use Rattle.rp_explore_run.specs.Reports.{held_text}
use Rattle.rp_explore_run.proofs.report.write_held.Given as goal

-- the lines before this one are written
abbrev pub invariant-loop-line : goal.invariant-loop-line
invariant-loop-line l = string_bytes l.text ≡ string_bytes l.fn.text ++ held_text l.is_whole (take l.line-index l.lines)
