-- The list at the node's place is what is known of it.
use Rattle.std.proofs.Common.{◌-◌, sym, ap, subst, ◌∙◌, arith}
use Rattle.rp_boxes.specs.Audits.{Audited, AreAllReported, known_of}
use Rattle.rp_boxes.specs.OneOrder.{AreOfOneOrder}
use Rattle.rp_boxes.proofs.AuditOrder.{of_one_order}
use Rattle.rp_boxes.proofs.Auditing.{IsListAt, lists, known_at}
use Rattle.rp_boxes.proofs.audit.Audit.known.Goals as goal

pub returns-clause-value : goal.returns-clause-value
returns-clause-value g c =
    let range = c.get.ensures.in_range in
    let at : IsListAt c.self.inside.known c.args.node (c.from.result - 1) =
    record { seven = c.self.invariant.0.seven; numbered = omega (arith, c.from.ensures, c.get.ensures.value, range.0); small = range.1 } in
    c.as_slice.ensures.value ∙ (sym (known_at at c.index-self-from.result) ∙ ap (λ audit. known_of audit.known c.args.node) c.self.view_is)

pub returns-clause-stated : goal.returns-clause-stated
returns-clause-stated g c = subst (λ audit. AreAllReported audit.seat.part audit.known) c.self.view_is c.self.invariant.0

pub returns-clause-one : goal.returns-clause-one
returns-clause-one g c =
    let m = g.M.Machine in
    let audit : Audited g.row.M-Program.Denot = record { seat = c.self.inside.seat; known = lists c.self.inside.known } in
    subst (AreOfOneOrder m.next m.answers m.begin) c.self.view_is (of_one_order m.next m.answers m.begin audit c.self.invariant.0 c.self.invariant.1)
