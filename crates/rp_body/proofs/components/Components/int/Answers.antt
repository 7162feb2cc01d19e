-- The names below the count are those of the map.
use Rattle.std.proofs.Common.{Some, get_or, pos, sym, ap, arith, ◌∙◌}
use Rattle.rp_body.proofs.Storing.{Holds, int_there, int_missing}
use Rattle.rp_body.proofs.components.Components.int.Goals as goal

pub returns-then-name-self : goal.returns-then-name-self
returns-then-name-self c =
    let h : Holds c.self.inside.int_count c.self.inside.ints c.self.inside.bool_count c.self.inside.bools c.args.self.now = record { shows = c.self.view_is; few_ints = c.self.invariant.0; few_bools = c.self.invariant.1; ints_room = c.self.invariant.2; bools_room = c.self.invariant.3 } in
    ap (λ k. Some (get_or c.self.inside.ints k (record { low = pos 0; high = pos 0; value = pos 0 }))) c.from.ensures ∙ sym (int_there h c.args.name (record { low = pos 0; high = pos 0; value = pos 0 }) (omega (arith, c.if-name-self.true)))

pub returns-else-name-self : goal.returns-else-name-self
returns-else-name-self c =
    let h : Holds c.self.inside.int_count c.self.inside.ints c.self.inside.bool_count c.self.inside.bools c.args.self.now = record { shows = c.self.view_is; few_ints = c.self.invariant.0; few_bools = c.self.invariant.1; ints_room = c.self.invariant.2; bools_room = c.self.invariant.3 } in
    sym (int_missing h c.args.name (omega (arith, c.if-name-self.false)))
