-- The name is one of the map.
use Rattle.std.proofs.Common.{get_or, false, ap, arith, ◌∙◌}
use Rattle.rp_body.proofs.Storing.{Holds, bools_counted, bool_read}
use Rattle.rp_body.proofs.components.Components.bool_value.Goals as goal

pub bounds-self-inside-from : goal.bounds-self-inside-from
bounds-self-inside-from c =
    let h : Holds c.self.inside.int_count c.self.inside.ints c.self.inside.bool_count c.self.inside.bools c.args.self.now = record { shows = c.self.view_is; few_ints = c.self.invariant.0; few_bools = c.self.invariant.1; ints_room = c.self.invariant.2; bools_room = c.self.invariant.3 } in
    omega (arith, bools_counted h, c.requires, c.from.ensures)

pub returns : goal.returns
returns c =
    let h : Holds c.self.inside.int_count c.self.inside.ints c.self.inside.bool_count c.self.inside.bools c.args.self.now = record { shows = c.self.view_is; few_ints = c.self.invariant.0; few_bools = c.self.invariant.1; ints_room = c.self.invariant.2; bools_room = c.self.invariant.3 } in
    ap (λ k. get_or c.self.inside.bools k false) c.from.ensures ∙ bool_read h c.args.name false (omega (arith, bools_counted h, c.requires))
