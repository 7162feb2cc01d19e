-- A task gets what its seat at the table got.
use Rattle.rp_board.proofs.SeatBoxes.{fetched_stays}
use Rattle.rp_boxes.specs.TaskSeats.{IsTaskAt}
use Rattle.rp_boxes.proofs.task_seat.TaskSeatFetch.fetch.Goals as goal

pub invariant_of-self : goal.invariant_of-self
invariant_of-self g c = fetched_stays (IsTaskAt c.self.inside.config c.self.inside.task) c.self.inside.seat c.fetch.new.self c.self.invariant _ _ c.fetch.result c.fetch.ensures.some c.fetch.ensures.none
