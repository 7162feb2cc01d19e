-- The nodes so far have reported.
use Rattle.std.proofs.Common.{◌≡◌, All, length}
use Rattle.std.specs.List.{AllZip}
use Rattle.rp_boxes.specs.NodeSeats.{HasApplied}
use Rattle.rp_threads.proofs.Places.{AreZippedSoFar}
use Rattle.rp_live.specs.Ends.{HadNoFault}
use Rattle.rp_live.specs.Seats.{AreNumbered, HasOnlyReported, IsEndOfRun, KnowsNothingAbove, StillRuns}
use Rattle.rp_live.proofs.Reading.{IsReadBelow}
use Rattle.rp_live.proofs.reports.read_logs.Given as goal

abbrev pub invariant-loop-end : goal.invariant-loop-end
invariant-loop-end g l = record {
  none : All HadNoFault l.end-iterator.rest.items → All HadNoFault l.fn.nodes.items;
  same : l.audit.seat.setup ≡ l.fn.audit.seat.setup;
  left : All IsEndOfRun l.end-iterator.rest.items;
  still : All StillRuns l.end-iterator.rest.items;
  reported : AreZippedSoFar (λ end seat. HasOnlyReported end.seat seat) l.fn.nodes.items l.end-iterator.rest.items l.seats.items;
  applied : AllZip (λ seat count. HasApplied seat.part count) l.seats.items l.applied.items;
  numbers : AreNumbered (length l.seats.items) l.end-iterator.rest.items;
  unread : KnowsNothingAbove (length l.seats.items) l.audit.known;
  read : AreZippedSoFar (λ end seat. IsReadBelow g.M.Machine.next g.M.Machine.answers g.M.Machine.begin (length l.seats.items) l.audit.known end.seat seat) l.fn.nodes.items l.end-iterator.rest.items l.seats.items;
}
