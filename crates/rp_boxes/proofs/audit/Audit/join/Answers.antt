-- The list at the node's place becomes what the report makes it.
use Rattle.std.proofs.Common.{◌≡◌, ◌≤◌, ◌<◌, ◌+◌, ◌-◌, List, length, sym, ap, subst, ◌∙◌, arith}
use Rattle.rp_base.specs.Sets.{Has}
use Rattle.rp_base.specs.declared.action.Action.{Action}
use Rattle.rp_model.specs.World.{with_part}
use Rattle.rp_boxes.specs.Audits.{Audited, AreAllReported, known_of, report, with_reported}
use Rattle.rp_boxes.specs.OneOrder.{AreOfOneOrder}
use Rattle.rp_boxes.proofs.AuditOrder.{of_one_order}
use Rattle.rp_boxes.proofs.Auditing.{IsListAt, list_still, lists, counted_at, known_here, put_there, still_known, leaves_gap, joins_known, stated_after, on_any_error}
use Rattle.rp_boxes.proofs.audit.Audit.join.Given as given
use Rattle.rp_boxes.proofs.audit.Audit.join.Goals as goal
use Rattle.rp_boxes.proofs.audit.Audit.join.Goals.{After-len-known}

-- the list of the node, and how long it is
module _ (g : given.Over) (c : After-len-known g) where
  at : IsListAt c.self.inside.known c.args.node (c.from-place.result - 1)
  at = record {
    seven = c.self.invariant.0.seven;
    numbered = omega (arith, c.from-place.ensures, c.get.ensures.value, c.get.ensures.in_range.0);
    small = c.get.ensures.in_range.1;
  }

  first : c.from-first.result ≡ c.args.first
  first = c.from-first.ensures ∙ c.get-2.ensures.value

  count : c.len-known.result ≡ length (known_of (lists c.self.inside.known) c.args.node)
  count = counted_at at c.index-self-place.result c.len-known.result c.len-known.ensures

  -- where the report leaves no gap
  below : c.from-first.result ≤ c.len-known.result + 1 → c.args.first ≤ length (known_of (lists c.self.inside.known) c.args.node) + 1
  below within = omega (arith, first, count, within)

  above : c.len-known.result + 1 < c.from-first.result → c.len-known.result + 1 < c.args.first
  above gap = omega (arith, first, gap)

pub returns-then-first-known-clause-ok : goal.returns-then-first-known-clause-ok
returns-then-first-known-clause-ok g c =
    let b = (goal.at.returns-then-first-known-clause-ok g c).After-len-known in
    leaves_gap c.args.self.now c.args.node c.args.first c.args.actions.now c.len-known.result
    (count g b ∙ ap (λ audit. length (known_of audit.known c.args.node)) c.self.view_is) (above g b c.if-first-known.true)

pub invariant_of-self : goal.invariant_of-self
invariant_of-self g c = (
  subst (AreAllReported c.self.inside.seat.part)
      (sym (still_known c.self.inside.known (c.from-place.result - 1) c.index-self-place-2.result _ c.in_err-put_reported.ensures.err))
      c.self.invariant.0,
  c.self.invariant.1,
)

pub returns-in_err-put_reported-clause-err : goal.returns-in_err-put_reported-clause-err
returns-in_err-put_reported-clause-err g c =
    on_any_error c.from_residual.result
    (ap (λ (known : List (List Action)). let audit : Audited g.row.M-Program.Denot = record { seat = c.self.inside.seat; known = known } in audit)
    (still_known c.self.inside.known (c.from-place.result - 1) c.index-self-place-2.result _ c.in_err-put_reported.ensures.err)
    ∙ c.self.view_is)

pub invariant_of-self-2 : goal.invariant_of-self-2
invariant_of-self-2 g c =
    let b = (goal.at.invariant_of-self-2 g c).After-len-known in
    let known = lists c.self.inside.known in
    let got = c.requires.got in
    let has = subst (λ audit. Has (report c.args.node c.args.first got.0 c.args.actions.now) audit.seat.part.got) (sym c.self.view_is) got.1 in
    let put = put_there (at g b) c.index-self-place-2.result c.put_reported.new.list c.args.first c.from-first.result c.args.actions.now (first g b) c.in_ok-put_reported.ensures.ok in (
      subst (AreAllReported c.self.inside.seat.part) (sym put) (stated_after c.self.inside.seat.part known c.self.invariant.0 c.args.node c.args.first got.0 c.args.actions.now has got.2 (below g b c.if-first-known.false)),
      c.self.invariant.1,
    )

pub overflow_cast-result-2 : goal.overflow_cast-result-2
overflow_cast-result-2 g c =
    let b = (goal.at.overflow_cast-result-2 g c).After-len-known in
    let after = (invariant_of-self-2 g c).0 in
    let count = counted_at (list_still (at g b) after.seven) c.index-self-place-3.result c.len-known-2.result c.len-known-2.ensures in
    let few = after.few c.args.node in
    omega (arith, count, few)

pub returns-clause-ok : goal.returns-clause-ok
returns-clause-ok g c =
    let b = (goal.at.returns-clause-ok g c).After-len-known in
    let node = c.args.node in
    let known = lists c.self.inside.known in
    let put = put_there (at g b) c.index-self-place-2.result c.put_reported.new.list c.args.first c.from-first.result c.args.actions.now (first g b) c.in_ok-put_reported.ensures.ok in
    let total = counted_at (list_still (at g b) (invariant_of-self-2 g c).0.seven) c.index-self-place-3.result c.len-known-2.result c.len-known-2.ensures
    ∙ (ap (λ (all : List (List Action)). length (known_of all node)) put
    ∙ (ap length (known_here (at g b) (with_reported (known_of known node) c.args.first c.args.actions.now))
    ∙ ap (λ audit. length (with_reported (known_of audit.known node) c.args.first c.args.actions.now)) c.self.view_is)) in
    joins_known c.args.self.now node c.args.first c.args.actions.now c.len-known-2.result _
    (subst (λ audit. c.args.first ≤ length (known_of audit.known node) + 1) c.self.view_is (below g b c.if-first-known.false))
    (ap (λ (all : List (List Action)). let audit : Audited g.row.M-Program.Denot = record { seat = c.self.inside.seat; known = all } in audit) put
    ∙ ap (λ (audit : Audited g.row.M-Program.Denot). let new : Audited g.row.M-Program.Denot = record audit { known = with_part audit.known node (with_reported (known_of audit.known node) c.args.first c.args.actions.now) } in new) c.self.view_is)
    total

pub returns-then-first-known-clause-one : goal.returns-then-first-known-clause-one
returns-then-first-known-clause-one g c =
    let m = g.M.Machine in
    let audit : Audited g.row.M-Program.Denot = record { seat = c.self.inside.seat; known = lists c.self.inside.known } in
    subst (AreOfOneOrder m.next m.answers m.begin) c.self.view_is (of_one_order m.next m.answers m.begin audit c.self.invariant.0 c.self.invariant.1)

pub returns-in_err-put_reported-clause-one : goal.returns-in_err-put_reported-clause-one
returns-in_err-put_reported-clause-one g c = let m = g.M.Machine in let after = invariant_of-self g c in of_one_order m.next m.answers m.begin _ after.0 after.1

pub returns-clause-one : goal.returns-clause-one
returns-clause-one g c = let m = g.M.Machine in let after = invariant_of-self-2 g c in of_one_order m.next m.answers m.begin _ after.0 after.1
