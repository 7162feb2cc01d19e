use Rattle.std.proofs.Common.{◌≡◌, ◌++◌, flat_map}
use Rattle.rp_script.specs.rp_machine.specs.Replay.{one_to}
use Rattle.rp_explore_run.specs.Findings.{waits_at}
use Rattle.rp_explore_run.proofs.findings.push_waits.Given as goal

-- the tasks before this one are added
abbrev pub invariant-loop-index : goal.invariant-loop-index
invariant-loop-index l = l.found.items ≡ l.fn.found.items ++ flat_map (waits_at l.explored) (one_to l.index)
