-- A procedure more, and its name.
use Rattle.std.proofs.Common.{◌≡◌, ◌+◌, length, true, rules, refl, sym, subst}
use Rattle.std.specs.Prelude.{is_some}
use Rattle.std.proofs.lemmas.Result.{on_ok_weaker}
use Rattle.rp_object.specs.rp_entry.specs.Operations.{of_index}
use Rattle.rp_object.specs.rp_entry.specs.declared.operations.Operations.{Operations}
use Rattle.rp_deck_bodies.specs.indexmap.specs.IndexMap.{values}
use Rattle.rp_deck_objects.specs.declared.names.OperationName.TheVariants.{Procedure}
use Rattle.rp_deck_objects.specs.ObjectLimits.{HasRoomForOperation}
use Rattle.rp_deck_objects.proofs.Naming.{last_numbered, procedure_more, named_after}
use Rattle.rp_deck_objects.proofs.ObjectLemmas.{procedure_fits, same_entries}
use Rattle.rp_deck_objects.proofs.objects.ObjectDraft.complete_procedure.Goals as goal

pub returns-clause-object : goal.returns-clause-object
returns-clause-object c =
    let self = c.args.self.now in
    let was = c.requires.object.object in
    let index = c.unwrap-index.result in
    let body = c.into_statements-body.result in
    let after : Operations = record { functions = self.operations.functions; procedures = c.push_item.new.items; entries = self.operations.entries } in
    let number : index.number ≡ length self.operations.procedures.items + 1 = search rules in
    let room = subst (λ h. HasRoomForOperation c.args.profile self.operations h) c.requires.head c.requires.operation.begun.room in
    let has : is_some (of_index after.procedures.items index.number) ≡ true =
    subst (λ l. is_some (of_index l index.number) ≡ true) (sym c.in_ok-push_item.ensures.items) (last_numbered self.operations.procedures.items body index.number number) in
    on_ok_weaker c.insert_string_in_map.result (λ more. record {
      ceiling = was.ceiling;
      components = was.components;
      entries = was.entries;
      fit = λ limits counted. procedure_fits self.operations after limits body room c.in_ok-push_item.ensures.items refl refl (was.fit limits counted)
          (c.into_statements-body.ensures.limits (values self.component_names) c.requires.operation.body limits counted);
      keeps = same_entries c.args.profile self.operations after refl was.keeps;
      named = named_after self.operations after self.operation_names c.insert_string_in_map.new.table (Procedure index) more
          (procedure_more self.operations after body c.in_ok-push_item.ensures.items refl refl) has was.named;
      operation = search rules;
    }) c.insert_string_in_map.ensures.values
