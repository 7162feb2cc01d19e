-- The task did nothing yet.
use Rattle.rp_threads_tests.proofs.Asking.{first_is_fresh}
use Rattle.rp_threads_tests.proofs.turns.calls.Goals as goal

pub makes_a_call-made-requires : goal.makes_a_call-made-requires
makes_a_call-made-requires g c =
    let all = c.all_seats-all.result in
    let are = c.all_seats-all.ensures in
    first_is_fresh all.audit.setup.table _ _ all.tasks.items c.swap_remove.result are.eight are.tasks_are c.swap_remove.ensures.value
