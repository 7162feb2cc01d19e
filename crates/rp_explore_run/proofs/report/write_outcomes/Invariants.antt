use Rattle.std.proofs.Common.{◌≡◌, ◌++◌, map, string_bytes, take}
use Rattle.indexmap.specs.IndexMap.{keys}
use Rattle.rp_explore_run.specs.Reports.{outcomes_text}
use Rattle.rp_explore_run.proofs.report.write_outcomes.Given as goal

-- the outcomes before this one are written
abbrev pub invariant-loop-place : goal.invariant-loop-place
invariant-loop-place g l =
    string_bytes l.text ≡ string_bytes l.fn.text ++ outcomes_text (map string_bytes (keys l.tasks)) 1 (take l.place l.outcomes)
