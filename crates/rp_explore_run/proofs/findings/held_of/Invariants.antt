use Rattle.std.proofs.Common.{◌≡◌, take}
use Rattle.rp_explore_run.specs.Findings.{held_of}
use Rattle.rp_explore_run.proofs.findings.held_of.Given as goal

-- the rules before this one are there
abbrev pub invariant-loop-rule : goal.invariant-loop-rule
invariant-loop-rule l = l.lines.items ≡ held_of (take l.rule-index l.judged)
