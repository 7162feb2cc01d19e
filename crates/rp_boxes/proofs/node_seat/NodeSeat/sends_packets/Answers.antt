-- The seat's packets are right.
use Rattle.std.proofs.Common.{subst}
use Rattle.rp_base.specs.Sets.{Has}
use Rattle.rp_codec.specs.Message.{IsPacket}
use Rattle.rp_board.specs.Seats.{SeatState}
use Rattle.rp_boxes.proofs.node_seat.NodeSeat.sends_packets.Goals as goal

pub returns : goal.returns
returns g c m = subst (λ (seat_state : SeatState g.row.M-Program.Denot). Has m seat_state.part.sent → IsPacket m) c.self.view_is (λ has. (c.packets_are_right.ensures.sent m has).0)
