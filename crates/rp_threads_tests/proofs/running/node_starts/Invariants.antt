-- The starts so far, and the seats that are left.
use Rattle.std.proofs.Common.{◌≡◌, ◌+◌, All, [], length}
use Rattle.rp_threads_tests.proofs.running.node_starts.Given as goal

abbrev pub invariant-loop-seat : goal.invariant-loop-seat
invariant-loop-seat g l = record {
  count : length l.starts.items + length l.seat-iterator.rest.items ≡ length l.fn.seats.items;
  lines : All (λ start. start.line.held ≡ []) l.starts.items;
}
