-- The object's protected action is the program's.
use Rattle.std.proofs.Common.{◌-◌, ℤ, ap, subst, rules, FitsSigned, w64}
use Rattle.std.proofs.lemmas.Int.{to_z-of_z}
use Rattle.rp_base.specs.Number.{IsTask}
use Rattle.rp_base.specs.Sets.{Has}
use Rattle.rp_entry.specs.Actions.{calls_entry}
use Rattle.rp_object.specs.State.{Running}
use Rattle.rp_object.specs.Step.{tasks_waiting}
use Rattle.rp_object.specs.InMemory.{tasks_at}
use Rattle.rp_object.proofs.Asking.{asks_at, objects_after, caller_joins, place_below, task_among}
use Rattle.rp_object.proofs.objects.Objects.entry.Goals as goal

pub entry-requires : goal.entry-requires
entry-requires c =
    let objects = c.self.inside.objects.items in
    let place = c.from.result - 1 in
    record {
      free = λ has. c.requires.free (subst (λ (r : Running). Has c.args.call.task (tasks_waiting r)) c.self.view_is
          (task_among objects place c.index_mut-asked.result.now c.args.call.task (place_below c.self.view_is c.from.ensures c.requires.there c.requires.declared) c.index_mut-asked.ensures.value has));
    }

pub invariant_of-self : goal.invariant_of-self
invariant_of-self c =
    let objects = c.self.inside.objects.items in
    let task : IsTask c.args.call.task = search rules in
    let free : ¬ Has c.args.call.task (tasks_at objects) = λ has. c.requires.free (subst (λ (r : Running). Has c.args.call.task (tasks_waiting r)) c.self.view_is has) in
    objects_after objects (c.from.result - 1) c.index_mut-asked.result.now c.entry.new.self _ _ _ c.self.invariant (place_below c.self.view_is c.from.ensures c.requires.there c.requires.declared) c.index_mut-asked.ensures.value c.entry.ensures.action c.entry.ensures.operations
    (caller_joins objects _ _ _ c.self.invariant task free)

pub returns-clause-action : goal.returns-clause-action
returns-clause-action c =
    let fits : FitsSigned w64 c.args.call.arg = search rules in
    asks_at c.self.view_is c.from.ensures (ap (λ (a : ℤ). calls_entry c.args.index (record { task = c.args.call.task; number = c.args.call.number; arg = a })) (to_z-of_z w64 c.args.call.arg fits)) c.index_mut-asked.result.now c.entry.new.self _ _
    c.requires.there c.requires.declared c.index_mut-asked.ensures.value c.entry.ensures.action c.entry.ensures.operations
