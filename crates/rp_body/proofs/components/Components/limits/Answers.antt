-- The counts are the numbers of names, and each number below them is one.
use Rattle.std.proofs.Common.{refl, subst, take}
use Rattle.rp_body.specs.Ranges.{IsNumbered}
use Rattle.rp_body.proofs.Places.{numbered}
use Rattle.rp_body.proofs.Storing.{Holds, limits_are}
use Rattle.rp_body.proofs.components.Components.limits.Goals as goal

pub returns-clause-counts : goal.returns-clause-counts
returns-clause-counts c =
    let h : Holds c.self.inside.int_count c.self.inside.ints c.self.inside.bool_count c.self.inside.bools c.args.self.now = record { shows = c.self.view_is; few_ints = c.self.invariant.0; few_bools = c.self.invariant.1; ints_room = c.self.invariant.2; bools_room = c.self.invariant.3 } in
    limits_are h _ refl refl

pub returns-clause-numbered : goal.returns-clause-numbered
returns-clause-numbered c =
    let inside = c.self.inside in
    subst IsNumbered c.self.view_is (record { ints = numbered (take inside.int_count inside.ints); bools = numbered (take inside.bool_count inside.bools) })
