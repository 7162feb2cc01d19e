-- The array changes where the map does.
use Rattle.std.proofs.Common.{pos, to_z, of_z, arith}
use mir.Syntax.{w128}
use Rattle.std.proofs.lemmas.Int.{to_z-of_z}
use Rattle.rp_body.proofs.Storing.{Holds, Finds, ints_counted, int_refused, int_taken, counts_after_int}
use Rattle.rp_body.proofs.components.Components.set_int.Goals as goal

pub bounds-self-inside-place : goal.bounds-self-inside-place
bounds-self-inside-place c =
    let h : Holds c.self.inside.int_count c.self.inside.ints c.self.inside.bool_count c.self.inside.bools c.args.self.now = record { shows = c.self.view_is; few_ints = c.self.invariant.0; few_bools = c.self.invariant.1; ints_room = c.self.invariant.2; bools_room = c.self.invariant.3 } in
    omega (arith, ints_counted h, c.requires, c.from-place.ensures)

pub bounds-self-inside-place-in-Some : goal.bounds-self-inside-place-in-Some
bounds-self-inside-place-in-Some c =
    let h : Holds c.self.inside.int_count c.self.inside.ints c.self.inside.bool_count c.self.inside.bools c.args.self.now = record { shows = c.self.view_is; few_ints = c.self.invariant.0; few_bools = c.self.invariant.1; ints_room = c.self.invariant.2; bools_room = c.self.invariant.3 } in
    omega (arith, ints_counted h, c.requires, c.from-place.ensures)

pub returns-in-Some-clause-value : goal.returns-in-Some-clause-value
returns-in-Some-clause-value c =
    let h : Holds c.self.inside.int_count c.self.inside.ints c.self.inside.bool_count c.self.inside.bools c.args.self.now = record { shows = c.self.view_is; few_ints = c.self.invariant.0; few_bools = c.self.invariant.1; ints_room = c.self.invariant.2; bools_room = c.self.invariant.3 } in
    let f : Finds c.self.inside.int_count c.self.inside.ints c.from-place.result c.args.name (record { low = pos 0; high = pos 0; value = pos 0 }) (to_z w128 (of_z w128 c.args.value)) c.args.value = record { here = c.from-place.ensures; there = omega (arith, ints_counted h, c.requires); value_is = to_z-of_z w128 c.args.value c.ranges.value } in
    int_taken h f c.in-Some.ensures

pub returns-in-Some-clause-counts : goal.returns-in-Some-clause-counts
returns-in-Some-clause-counts c =
    let h : Holds c.self.inside.int_count c.self.inside.ints c.self.inside.bool_count c.self.inside.bools c.args.self.now = record { shows = c.self.view_is; few_ints = c.self.invariant.0; few_bools = c.self.invariant.1; ints_room = c.self.invariant.2; bools_room = c.self.invariant.3 } in
    counts_after_int h c.from-place.result c.in-Some.component

pub returns-in-None-clause-value : goal.returns-in-None-clause-value
returns-in-None-clause-value c =
    let h : Holds c.self.inside.int_count c.self.inside.ints c.self.inside.bool_count c.self.inside.bools c.args.self.now = record { shows = c.self.view_is; few_ints = c.self.invariant.0; few_bools = c.self.invariant.1; ints_room = c.self.invariant.2; bools_room = c.self.invariant.3 } in
    let f : Finds c.self.inside.int_count c.self.inside.ints c.from-place.result c.args.name (record { low = pos 0; high = pos 0; value = pos 0 }) (to_z w128 (of_z w128 c.args.value)) c.args.value = record { here = c.from-place.ensures; there = omega (arith, ints_counted h, c.requires); value_is = to_z-of_z w128 c.args.value c.ranges.value } in
    int_refused h f c.in-None.ensures
