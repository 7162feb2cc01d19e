-- The seats are those of three nodes and eight tasks, as they are at first.
use Rattle.std.proofs.Common.{◌≡◌, ◌∙◌, length, arith}
use Rattle.rp_threads_tests.proofs.Starting.{first_fresh}
use Rattle.rp_threads_tests.proofs.running.run_three.Goals as goal

pub task_starts-tasks-requires-clause-some : goal.task_starts-tasks-requires-clause-some
task_starts-tasks-requires-clause-some g c = omega (arith, c.all_seats-all.ensures.eight)

pub task_starts-tasks-requires-clause-fresh : goal.task_starts-tasks-requires-clause-fresh
task_starts-tasks-requires-clause-fresh g c = first_fresh _ _ _ _ c.all_seats-all.ensures.tasks_are

pub run_threads-ends-requires-clause-count : goal.run_threads-ends-requires-clause-count
run_threads-ends-requires-clause-count g c κs within =
    let three : length c.node_starts-nodes.result.items ≡ 3 = c.node_starts-nodes.ensures.count ∙ c.all_seats-all.ensures.size in
    (omega (arith, three), omega (arith, three))
