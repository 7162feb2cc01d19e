-- A seat whose device failed has a node that is stopped; otherwise its replica is the node.
use Rattle.std.proofs.Common.{sym, subst, ◌∙◌}
use Rattle.rp_boxes.specs.NodeSeats.{HasUncounted}
use Rattle.rp_boxes.proofs.Uncounted.{none_counted, none_failed, some_uncounted}
use Rattle.rp_boxes.proofs.node_seat.NodeSeat.has_uncounted.Goals as goal

pub returns-then-not-has_failed-clause-some : goal.returns-then-not-has_failed-clause-some
returns-then-not-has_failed-clause-some g c is =
    let m = g.M.Machine in
    subst (HasUncounted m.next m.answers m.begin) c.self.view_is
    (some_uncounted m.next m.answers m.begin _ c.self.inside.replica c.self.invariant (sym c.has_failed.ensures ∙ c.if-not-has_failed.true) (sym c.has_uncounted.ensures ∙ is))

pub returns-then-not-has_failed-clause-none : goal.returns-then-not-has_failed-clause-none
returns-then-not-has_failed-clause-none g c is pending =
    let m = g.M.Machine in
    none_counted m.next m.answers m.begin _ c.self.inside.replica c.self.invariant (sym c.has_failed.ensures ∙ c.if-not-has_failed.true) (sym c.has_uncounted.ensures ∙ is)
    (subst (HasUncounted m.next m.answers m.begin) (sym c.self.view_is) pending)

pub returns-else-not-has_failed-clause-none : goal.returns-else-not-has_failed-clause-none
returns-else-not-has_failed-clause-none g c is pending =
    let m = g.M.Machine in
    none_failed m.next m.answers m.begin _ c.self.inside.replica c.self.invariant (sym c.has_failed.ensures ∙ c.if-not-has_failed.false)
    (subst (HasUncounted m.next m.answers m.begin) (sym c.self.view_is) pending)
