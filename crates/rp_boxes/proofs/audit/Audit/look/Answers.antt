-- The order of the world that was seen.
use Rattle.std.proofs.Common.{sym, subst}
use Rattle.rp_board.specs.Seats.{SeatState}
use Rattle.rp_boxes.specs.Audits.{Audited}
use Rattle.rp_boxes.specs.OneOrder.{AreOfOneOrder}
use Rattle.rp_boxes.proofs.Auditing.{lists}
use Rattle.rp_boxes.proofs.AuditOrder.{of_one_order, report_order}
use Rattle.rp_boxes.proofs.audit.Audit.look.Goals as goal

pub returns-clause-one : goal.returns-clause-one
returns-clause-one g c =
    let m = g.M.Machine in
    let seat = c.self.inside.seat in
    let known = lists c.self.inside.known in
    let audit : Audited g.row.M-Program.Denot = record { seat = seat; known = known } in
    let one = report_order m.next m.answers m.begin c.reports_follow_the_order.ensures seat (c.order_laws.ensures seat.setup.config seat.setup.program) c.look.ensures.world in
    subst (λ (s : SeatState g.row.M-Program.Denot). AreOfOneOrder m.next m.answers m.begin (let looked : Audited g.row.M-Program.Denot = record { seat = s; known = known } in looked)) (sym c.look.ensures.unchanged)
    (of_one_order m.next m.answers m.begin audit c.self.invariant.0 one)
