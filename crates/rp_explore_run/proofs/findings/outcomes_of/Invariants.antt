use Rattle.std.proofs.Common.{◌≡◌, map, take}
use Rattle.rp_explore_run.specs.declared.findings.Found.{Found}
use Rattle.rp_explore_run.proofs.findings.outcomes_of.Given as goal

-- the outcomes before this one are there
abbrev pub invariant-loop-one : goal.invariant-loop-one
invariant-loop-one l = l.outcomes.items ≡ map (λ (f : Found). f.outcome) (take l.one-index l.found)
