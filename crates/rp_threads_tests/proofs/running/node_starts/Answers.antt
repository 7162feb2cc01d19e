-- One more node is to start.
use Rattle.std.proofs.Common.{◌≡◌, [], ◌∷◌, length, ap, arith}
use Rattle.std.proofs.lemmas.List.{length-append}
use Rattle.rp_threads_tests.proofs.Starting.{none_of, one_more_of}
use Rattle.rp_threads_tests.proofs.running.node_starts.Goals as goal

pub loop-seat-init : goal.loop-seat-init
loop-seat-init g c =
    let none = c.new-starts.ensures.items in
    let same = c.into_iter-seat-iterator.ensures.into_iter_gives.0 in
    record {
      count = omega (arith, ap length none, ap length same);
      lines = none_of (λ start. start.line.held ≡ []) c.new-starts.result.items none;
    }

pub loop-seat-preserved : goal.loop-seat-preserved
loop-seat-preserved g c =
    let was = c.loop-seat.invariant in
    let grown = c.in-Ok.ensures.items in
    let start = c.node_start-start.result in
    let steps = c.in-Some.ensures.steps.0 in
    record {
      count = omega (arith, ap length grown, length-append c.loop-seat.starts.items (start ∷ []), ap length steps, was.count);
      lines = one_more_of (λ s. s.line.held ≡ []) c.loop-seat.starts.items c.push.new.self.items start grown was.lines c.node_start-start.ensures;
    }
