-- A task puts what its seat at the table put.
use Rattle.std.proofs.Common.{sym, subst}
use Rattle.rp_board.specs.Seats.{SeatState, IsSentText}
use Rattle.rp_board.proofs.SeatBoxes.{put_stays}
use Rattle.rp_boxes.specs.TaskSeats.{IsTaskAt}
use Rattle.rp_boxes.proofs.task_seat.TaskSeatPut.put.Goals as goal

pub put-requires : goal.put-requires
put-requires g c = record { sent = subst (λ (seat : SeatState g.row.M-Program.Denot). IsSentText seat.part c.args.packet.items) (sym c.self.view_is) c.requires.sent }

pub invariant_of-self : goal.invariant_of-self
invariant_of-self g c = put_stays (IsTaskAt c.self.inside.config c.self.inside.task) c.self.inside.seat c.put.new.self c.self.invariant _ c.put.result c.put.ensures.put c.put.ensures.unchanged
