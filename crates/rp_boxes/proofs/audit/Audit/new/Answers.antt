-- A look at the table gives the order of what was reported so far.
use Rattle.std.proofs.Common.{[], ◌∷◌, sym, subst}
use Rattle.rp_boxes.specs.OneOrder.{ReportOneOrder}
use Rattle.rp_boxes.proofs.Auditing.{none_stated}
use Rattle.rp_boxes.proofs.AuditOrder.{report_order}
use Rattle.rp_boxes.proofs.audit.Audit.new.Goals as goal

pub invariant_of-result : goal.invariant_of-result
invariant_of-result g c =
    let m = g.M.Machine in
    let seat = c.args.seat in
    let one = report_order m.next m.answers m.begin c.reports_follow_the_order.ensures seat (c.order_laws.ensures seat.setup.config seat.setup.program) c.look.ensures.world in (
      none_stated c.look.new.self.part _ (λ i. c.new.ensures.items i ∷ c.new-2.ensures.items i ∷ c.new-3.ensures.items i ∷ c.new-4.ensures.items i ∷ c.new-5.ensures.items i ∷ c.new-6.ensures.items i ∷ c.new-7.ensures.items i ∷ []),
      subst (ReportOneOrder m.next m.answers m.begin) (sym c.look.ensures.unchanged) one,
    )
