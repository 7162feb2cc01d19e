-- A node gets what its seat at the table got.
use Rattle.rp_board.proofs.SeatBoxes.{fetched_stays}
use Rattle.rp_boxes.specs.NodeSeats.{IsNodeAt}
use Rattle.rp_boxes.proofs.node_seat.NodeSeatFetch.fetch.Goals as goal

pub invariant_of-self : goal.invariant_of-self
invariant_of-self g c = fetched_stays (IsNodeAt g.M.Machine.begin c.self.inside.replica) c.self.inside.seat c.fetch.new.self c.self.invariant _ _ c.fetch.result c.fetch.ensures.some c.fetch.ensures.none
