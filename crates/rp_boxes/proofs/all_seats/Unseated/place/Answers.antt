-- An actor is left, and goes to a place of its own.
use Rattle.std.specs.Arc.{arc_value}
use Rattle.std.proofs.Common.{◌<◌, sym, subst}
use Rattle.rp_boxes.proofs.Seating.{some_left, rest_after}
use Rattle.rp_boxes.proofs.all_seats.Unseated.place.Goals as goal

pub split-place-requires-clause-some : goal.split-place-requires-clause-some
split-place-requires-clause-some g c =
    let rest = c.self.inside.rest in
    some_left (arc_value c.self.inside.board).shared.table_id rest.table_id c.self.inside.next rest.me c.self.invariant.0 (subst (λ o. o.next < 16) (sym c.self.view_is) c.requires)

pub invariant_of-self : goal.invariant_of-self
invariant_of-self g c =
    let table = (arc_value c.self.inside.board).shared.table_id in
    let rest = c.self.inside.rest in
    let new = c.split-place.new.place in (
      rest_after table rest.table_id c.self.inside.next rest.me c.self.invariant.0 (subst (λ o. o.next < 16) (sym c.self.view_is) c.requires)
          new.table_id new.me c.split-place.ensures.same.0 c.split-place.ensures.others,
      c.self.invariant.1,
      c.self.invariant.2,
    )
