-- The seats so far.
use Rattle.std.proofs.Common.{◌≡◌, ◌+◌, [], length}
use Rattle.rp_boxes.specs.FirstSeats.{AreFirstSeats, after_seats}
use Rattle.rp_boxes.proofs.all_seats.Unseated.tasks.Given as goal

abbrev pub invariant-loop-number : goal.invariant-loop-number
invariant-loop-number g l = record {
  same : l.self ≡ after_seats (length l.seats.items) l.initial.self;
  count : length l.seats.items + 1 ≡ l.number;
  seats : AreFirstSeats l.initial.self.table l.initial.self.config l.initial.self.program 8 [] l.seats.items;
}
