-- The order of the world that the two saw.
use Rattle.std.proofs.Common.{◌+◌, [], ◌∷◌, inl, inr, refl, sym, subst}
use Rattle.rp_agreement.specs.Computed.{order_of}
use Rattle.rp_board.specs.Rule.{all_sent}
use Rattle.rp_board.specs.Seats.{SeatState, setting_at}
use Rattle.rp_boxes.specs.Audits.{Audited}
use Rattle.rp_boxes.specs.OneOrder.{ShareOneOrder}
use Rattle.rp_boxes.proofs.Auditing.{lists}
use Rattle.rp_boxes.proofs.AuditOrder.{known_begins}
use Rattle.rp_boxes.proofs.TaskOrder.{of_order}
use Rattle.rp_boxes.proofs.WorldOrder.{world_order}
use Rattle.rp_boxes.proofs.audit.Audit.meet.Goals as goal

pub returns-clause-one : goal.returns-clause-one
returns-clause-one g c =
    let m = g.M.Machine in
    let seat = c.self.inside.seat in
    let task = c.args.task in
    let known = lists c.self.inside.known in
    let audit : Audited g.row.M-Program.Denot = record { seat = seat; known = known } in
    let s = setting_at m.next m.answers m.begin task in
    let view = (7 + task.setup.number, task.part) ∷ (0, seat.part) ∷ [] in
    let seen = c.look_with_task-seat.ensures.world in
    let laws = c.order_laws.ensures task.setup.config task.setup.program in
    let one : ShareOneOrder m.next m.answers m.begin audit task = record {
      order = order_of s.config.nodes (all_sent seen.0 16);
      of_world = world_order s view seen.0 seen.1 laws;
      begins = known_begins s view seen.0 seen.1 laws.exists c.reports_follow_the_order.ensures seat.part (inr (inl refl)) known c.self.invariant.0;
      task = of_order s view seen.0 seen.1 task.setup.number task.part (inl refl) laws;
    } in
    subst (λ (z : SeatState g.row.M-Program.Denot × SeatState g.row.M-Program.Denot). ShareOneOrder m.next m.answers m.begin (let met : Audited g.row.M-Program.Denot = record { seat = z.0; known = known } in met) z.1)
    (λ i. (sym c.look_with_task-seat.ensures.same.0 i, sym c.look_with_task-seat.ensures.same.1 i)) one
