-- A function more, and its name.
use Rattle.std.proofs.Common.{◌≡◌, ◌+◌, length, true, rules, refl, sym, subst}
use Rattle.std.specs.Prelude.{is_some}
use Rattle.std.proofs.lemmas.Result.{on_ok_weaker}
use Rattle.rp_object.specs.rp_entry.specs.Operations.{of_index}
use Rattle.rp_object.specs.rp_entry.specs.declared.operations.Operations.{Operations}
use Rattle.rp_deck_objects.specs.declared.names.OperationName.TheVariants.{Function}
use Rattle.rp_deck_objects.proofs.Naming.{last_numbered, function_more, named_after}
use Rattle.rp_deck_objects.proofs.ObjectLemmas.{function_fits, same_entries}
use Rattle.rp_deck_objects.proofs.objects.ObjectDraft.add_function.Goals as goal

pub returns-clause-object : goal.returns-clause-object
returns-clause-object c = (
  (λ profile may.
      let self = c.args.self.now in
      let was = may.object in
      let index = c.unwrap-index.result in
      let function = c.args.function in
      let after : Operations = record { functions = c.push_item.new.items; procedures = self.operations.procedures; entries = self.operations.entries } in
      let number : index.number ≡ length self.operations.functions.items + 1 = search rules in
      let has : is_some (of_index after.functions.items index.number) ≡ true =
      subst (λ l. is_some (of_index l index.number) ≡ true) (sym c.in_ok-push_item.ensures.items) (last_numbered self.operations.functions.items function index.number number) in
      on_ok_weaker c.insert_in_map.result (λ more. record {
        ceiling = was.ceiling;
        components = was.components;
        entries = was.entries;
        fit = λ limits counted. function_fits self.operations after limits function c.requires.room c.in_ok-push_item.ensures.items refl refl (was.fit limits counted) (c.requires.fits limits counted);
        keeps = same_entries profile self.operations after refl was.keeps;
        named = named_after self.operations after self.operation_names c.insert_in_map.new.table (Function index) more
            (function_more self.operations after function c.in_ok-push_item.ensures.items refl refl) has was.named;
        operation = search rules;
      }) c.insert_in_map.ensures.values),
  search rules,
)
