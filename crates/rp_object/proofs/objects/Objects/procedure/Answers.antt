-- The object's protected action is the program's.
use Rattle.std.proofs.Common.{◌-◌, refl, ap, w64}
use Rattle.std.proofs.lemmas.Int.{to_z-of_z}
use Rattle.rp_entry.specs.Actions.{calls_procedure}
use Rattle.rp_object.proofs.Asking.{asks_at, objects_after, nobody_joins, place_below}
use Rattle.rp_object.proofs.objects.Objects.procedure.Goals as goal

pub invariant_of-self : goal.invariant_of-self
invariant_of-self c = objects_after c.self.inside.objects.items (c.from.result - 1) c.index_mut.result.now c.procedure.new.self _ _ _ c.self.invariant (place_below c.self.view_is c.from.ensures c.requires.there c.requires.declared) c.index_mut.ensures.value c.procedure.ensures.action c.procedure.ensures.operations (nobody_joins c.self.inside.objects.items _ _ c.self.invariant refl)

pub returns-clause-action : goal.returns-clause-action
returns-clause-action c = asks_at c.self.view_is c.from.ensures (ap (calls_procedure c.args.index) (to_z-of_z w64 c.args.arg c.ranges.arg)) c.index_mut.result.now c.procedure.new.self _ _ c.requires.there c.requires.declared c.index_mut.ensures.value c.procedure.ensures.action c.procedure.ensures.operations
