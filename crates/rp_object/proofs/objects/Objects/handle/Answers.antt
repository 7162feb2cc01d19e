-- The object's protected action is the program's.
use Rattle.std.proofs.Common.{◌-◌, refl}
use Rattle.rp_object.proofs.Asking.{asks_at, objects_after, nobody_joins, place_below, events_count}
use Rattle.rp_object.proofs.objects.Objects.handle.Goals as goal

pub invariant_of-self : goal.invariant_of-self
invariant_of-self c = objects_after c.self.inside.objects.items (c.from.result - 1) c.index_mut.result.now c.handler.new.self _ _ _ c.self.invariant (place_below c.self.view_is c.from.ensures c.requires.there c.requires.declared) c.index_mut.ensures.value c.handler.ensures.action c.handler.ensures.operations (nobody_joins c.self.inside.objects.items _ _ c.self.invariant refl)

pub returns-clause-action : goal.returns-clause-action
returns-clause-action c = asks_at c.self.view_is c.from.ensures refl c.index_mut.result.now c.handler.new.self _ _ c.requires.there c.requires.declared c.index_mut.ensures.value c.handler.ensures.action c.handler.ensures.operations

pub returns-clause-room : goal.returns-clause-room
returns-clause-room c = events_count c.self.view_is c.index_mut.result.now c.handler.new.self c.self.invariant (place_below c.self.view_is c.from.ensures c.requires.there c.requires.declared) c.index_mut.ensures.value c.handler.ensures.action
