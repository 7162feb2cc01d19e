-- The names below the count are those of the map.
use Rattle.std.proofs.Common.{Some, get_or, false, sym, ap, arith, ◌∙◌}
use Rattle.rp_body.proofs.Storing.{Holds, bool_there, bool_missing}
use Rattle.rp_body.proofs.components.Components.bool.Goals as goal

pub returns-then-name-self : goal.returns-then-name-self
returns-then-name-self c =
    let h : Holds c.self.inside.int_count c.self.inside.ints c.self.inside.bool_count c.self.inside.bools c.args.self.now = record { shows = c.self.view_is; few_ints = c.self.invariant.0; few_bools = c.self.invariant.1; ints_room = c.self.invariant.2; bools_room = c.self.invariant.3 } in
    ap (λ k. Some (get_or c.self.inside.bools k false)) c.from.ensures ∙ sym (bool_there h c.args.name false (omega (arith, c.if-name-self.true)))

pub returns-else-name-self : goal.returns-else-name-self
returns-else-name-self c =
    let h : Holds c.self.inside.int_count c.self.inside.ints c.self.inside.bool_count c.self.inside.bools c.args.self.now = record { shows = c.self.view_is; few_ints = c.self.invariant.0; few_bools = c.self.invariant.1; ints_room = c.self.invariant.2; bools_room = c.self.invariant.3 } in
    sym (bool_missing h c.args.name (omega (arith, c.if-name-self.false)))
