use Rattle.std.proofs.Common.{◌≡◌, take}
use Rattle.rp_script.specs.rp_machine.specs.Asked.{last_number}
use Rattle.rp_explore_run.proofs.findings.last_number.Given as goal

-- the last call before this action
abbrev pub invariant-loop-action : goal.invariant-loop-action
invariant-loop-action l = l.last ≡ last_number l.task (take l.action-index l.order)
