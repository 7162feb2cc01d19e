-- The array has room after the numbers that are there.
use Rattle.std.proofs.Common.{arith, length-set, ◌∙◌}
use Rattle.rp_body.proofs.Storing.{Holds, ints_counted, int_added}
use Rattle.rp_body.proofs.components.Components.add_int.Goals as goal

pub bounds-self-inside-from : goal.bounds-self-inside-from
bounds-self-inside-from c =
    let h : Holds c.self.inside.int_count c.self.inside.ints c.self.inside.bool_count c.self.inside.bools c.args.self.now = record { shows = c.self.view_is; few_ints = c.self.invariant.0; few_bools = c.self.invariant.1; ints_room = c.self.invariant.2; bools_room = c.self.invariant.3 } in
    omega (arith, ints_counted h, c.requires.room, c.from.ensures)

pub invariant_of-self : goal.invariant_of-self
invariant_of-self c =
    let h : Holds c.self.inside.int_count c.self.inside.ints c.self.inside.bool_count c.self.inside.bools c.args.self.now = record { shows = c.self.view_is; few_ints = c.self.invariant.0; few_bools = c.self.invariant.1; ints_room = c.self.invariant.2; bools_room = c.self.invariant.3 } in
    (omega (arith, ints_counted h, c.requires.room), h.few_bools, length-set c.self.inside.ints c.from.result c.args.component ∙ h.ints_room, h.bools_room)

pub returns : goal.returns
returns c =
    let h : Holds c.self.inside.int_count c.self.inside.ints c.self.inside.bool_count c.self.inside.bools c.args.self.now = record { shows = c.self.view_is; few_ints = c.self.invariant.0; few_bools = c.self.invariant.1; ints_room = c.self.invariant.2; bools_room = c.self.invariant.3 } in
    int_added h c.from.result c.args.component c.from.ensures (omega (arith, ints_counted h, c.requires.room))
