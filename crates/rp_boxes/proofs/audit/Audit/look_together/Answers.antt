-- The order of the world that all saw.
use Rattle.std.proofs.Common.{◌∙◌, ap, sym, subst}
use Rattle.rp_boxes.specs.Audits.{Audited}
use Rattle.rp_boxes.specs.Together.{AreTogether}
use Rattle.rp_boxes.proofs.Auditing.{lists}
use Rattle.rp_boxes.proofs.OneWorld.{together}
use Rattle.rp_boxes.proofs.audit.Audit.look_together.Goals as goal

pub look_with-requires-clause-nodes : goal.look_with-requires-clause-nodes
look_with-requires-clause-nodes g c k d less = c.requires.nodes k d less ∙ ap (λ (a : Audited g.row.M-Program.Denot). a.seat.setup.table) (sym c.self.view_is)

pub look_with-requires-clause-tasks : goal.look_with-requires-clause-tasks
look_with-requires-clause-tasks g c k d less = c.requires.tasks k d less ∙ ap (λ (a : Audited g.row.M-Program.Denot). a.seat.setup.table) (sym c.self.view_is)

pub returns : goal.returns
returns g c =
    let m = g.M.Machine in
    let seat = c.self.inside.seat in
    let audit : Audited g.row.M-Program.Denot = record { seat = seat; known = lists c.self.inside.known } in
    let seen = c.look_with.ensures in
    subst (λ (a : Audited g.row.M-Program.Denot). AreTogether m.next m.answers m.begin a c.args.nodes.items c.args.tasks.items) c.self.view_is
    (together m.next m.answers m.begin audit c.args.nodes.items c.args.tasks.items seen.0 seen.1 (c.order_laws.ensures seat.setup.config seat.setup.program) c.reports_follow_the_order.ensures
    c.applied_lists_are_prefixes.ensures c.self.invariant.0)
