use Rattle.std.proofs.Common.{◌≡◌, ◌++◌}
use Rattle.rp_run.specs.Output.{names_of}
use Rattle.rp_details.specs.Details.{tasks_lines}
use Rattle.rp_details.proofs.tasks.add_tasks.Given as goal

-- the tasks so far are said
abbrev pub invariant-loop-place : goal.invariant-loop-place
invariant-loop-place g l = l.text.items ≡ l.initial.text.items ++ tasks_lines (names_of l.tasks) l.cluster.world l.place
