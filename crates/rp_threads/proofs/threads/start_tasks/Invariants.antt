-- The threads so far, and the tasks that are left.
use Rattle.std.proofs.Common.{◌≡◌, All, []}
use Rattle.rp_board.specs.Parts.{fresh_part, OfTask}
use Rattle.rp_replica.specs.rp_model.specs.Parts.{fresh_task}
use Rattle.rp_threads.proofs.Places.{AreZippedSoFar}
use Rattle.rp_threads.proofs.threads.start_tasks.Given as goal

abbrev pub invariant-loop-start : goal.invariant-loop-start
invariant-loop-start g l = record {
  started : AreZippedSoFar (λ start handle. (handle.promise.start.value ≡ start) × (handle.promise.nodes ≡ l.nodes) × (handle.promise.turns ≡ l.options.turns))
      l.fn.starts.items l.start-iterator.rest.items l.handles.items;
  lines : All (λ start. start.line.held ≡ []) l.start-iterator.rest.items;
  fresh : All (λ start. start.seat.part ≡ fresh_part (OfTask fresh_task)) l.start-iterator.rest.items;
}
