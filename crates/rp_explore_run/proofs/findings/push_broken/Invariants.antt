use Rattle.std.proofs.Common.{◌≡◌, ◌++◌, take}
use Rattle.rp_explore_run.specs.Findings.{broken_of}
use Rattle.rp_explore_run.proofs.findings.push_broken.Given as goal

-- the rules before this one are added
abbrev pub invariant-loop-rule : goal.invariant-loop-rule
invariant-loop-rule l = l.found.items ≡ l.fn.found.items ++ broken_of (take l.rule-index l.judged)
