use Rattle.std.proofs.Common.{◌≡◌, ◌++◌}
use Rattle.rp_run.specs.Runs.{run_setting}
use Rattle.rp_details.specs.Details.{nodes_lines}
use Rattle.rp_details.proofs.nodes.add_nodes.Given as goal

-- the nodes so far are said
abbrev pub invariant-loop-place : goal.invariant-loop-place
invariant-loop-place g l =
    let m = g.M.Machine in
    l.text.items ≡ l.initial.text.items ++ nodes_lines (run_setting m.next m.answers m.begin m.image l.cluster l.options) l.cluster.world l.place
