-- What is said of the node's part once its turn is counted.
use Rattle.rp_board.specs.Seats.{setting_at}
use Rattle.rp_boxes.specs.CountedTurns.{HasStepped, HasStopped}
use Rattle.rp_boxes.proofs.node_seat.NodeSeat.turn.Given as goal

abbrev pub ghosts-note : goal.ghosts-note
ghosts-note g a =
    let m = g.M.Machine in
    let seat = a.self.now in
    record { says = HasStepped (setting_at m.next m.answers m.begin seat) seat.setup.number seat.part a.event.now.1.now a.event.now.0.now a.event.now.2.now }

abbrev pub ghosts-note-2 : goal.ghosts-note-2
ghosts-note-2 g a =
    let m = g.M.Machine in
    let seat = a.self.now in
    record { says = HasStopped (setting_at m.next m.answers m.begin seat) seat.setup.number seat.part a.event.now.1.now a.event.now.0.now }
