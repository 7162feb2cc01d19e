-- The array changes where the map does.
use Rattle.std.proofs.Common.{ap, set, arith, ◌∙◌}
use Rattle.rp_body.proofs.Storing.{Holds, shown, bools_counted, bool_written, counts_after_bool}
use Rattle.rp_body.proofs.components.Components.set_bool.Goals as goal

pub bounds-self-inside-from : goal.bounds-self-inside-from
bounds-self-inside-from c =
    let h : Holds c.self.inside.int_count c.self.inside.ints c.self.inside.bool_count c.self.inside.bools c.args.self.now = record { shows = c.self.view_is; few_ints = c.self.invariant.0; few_bools = c.self.invariant.1; ints_room = c.self.invariant.2; bools_room = c.self.invariant.3 } in
    omega (arith, bools_counted h, c.requires, c.from.ensures)

pub returns-clause-value : goal.returns-clause-value
returns-clause-value c =
    let h : Holds c.self.inside.int_count c.self.inside.ints c.self.inside.bool_count c.self.inside.bools c.args.self.now = record { shows = c.self.view_is; few_ints = c.self.invariant.0; few_bools = c.self.invariant.1; ints_room = c.self.invariant.2; bools_room = c.self.invariant.3 } in
    ap (λ k. shown c.self.inside.int_count c.self.inside.ints c.self.inside.bool_count (set c.self.inside.bools k c.args.value)) c.from.ensures ∙ bool_written h c.args.name c.args.value (omega (arith, bools_counted h, c.requires))

pub returns-clause-counts : goal.returns-clause-counts
returns-clause-counts c =
    let h : Holds c.self.inside.int_count c.self.inside.ints c.self.inside.bool_count c.self.inside.bools c.args.self.now = record { shows = c.self.view_is; few_ints = c.self.invariant.0; few_bools = c.self.invariant.1; ints_room = c.self.invariant.2; bools_room = c.self.invariant.3 } in
    counts_after_bool h c.from.result c.args.value
