-- The name is one of the map.
use Rattle.std.proofs.Common.{get_or, pos, ap, arith, FitsSigned, w64, rules, ◌∙◌}
use Rattle.std.proofs.lemmas.Int.{to_z-of_z}
use Rattle.rp_body.proofs.Storing.{Holds, ints_counted, int_read}
use Rattle.rp_body.proofs.components.Components.int_value.Goals as goal

pub bounds-self-inside-from : goal.bounds-self-inside-from
bounds-self-inside-from c =
    let h : Holds c.self.inside.int_count c.self.inside.ints c.self.inside.bool_count c.self.inside.bools c.args.self.now = record { shows = c.self.view_is; few_ints = c.self.invariant.0; few_bools = c.self.invariant.1; ints_room = c.self.invariant.2; bools_room = c.self.invariant.3 } in
    omega (arith, ints_counted h, c.requires, c.from.ensures)

pub returns : goal.returns
returns c =
    let h : Holds c.self.inside.int_count c.self.inside.ints c.self.inside.bool_count c.self.inside.bools c.args.self.now = record { shows = c.self.view_is; few_ints = c.self.invariant.0; few_bools = c.self.invariant.1; ints_room = c.self.invariant.2; bools_room = c.self.invariant.3 } in
    let found = get_or c.self.inside.ints c.from.result (record { low = pos 0; high = pos 0; value = pos 0 }) in
    let fits : FitsSigned w64 found.value = search rules in
    to_z-of_z w64 found.value fits ∙ ap (λ k. (get_or c.self.inside.ints k (record { low = pos 0; high = pos 0; value = pos 0 })).value) c.from.ensures ∙ int_read h c.args.name (record { low = pos 0; high = pos 0; value = pos 0 }) (omega (arith, ints_counted h, c.requires))
