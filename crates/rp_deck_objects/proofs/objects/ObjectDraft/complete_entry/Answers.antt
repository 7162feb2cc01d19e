-- An entry more, and its name.
use Rattle.std.proofs.Common.{◌≡◌, ◌+◌, length, true, rules, arith, refl, sym, subst}
use Rattle.std.specs.Prelude.{is_some}
use Rattle.std.proofs.lemmas.Result.{on_ok_weaker}
use Rattle.rp_object.specs.rp_entry.specs.Operations.{of_index}
use Rattle.rp_object.specs.rp_entry.specs.declared.operations.Operations.{Operations}
use Rattle.rp_object.specs.rp_entry.specs.declared.operations.Entry.{Entry as DeclaredEntry}
use Rattle.rp_deck_bodies.specs.indexmap.specs.IndexMap.{values}
use Rattle.rp_deck_objects.specs.declared.objects.Head.{Head}
use Rattle.rp_deck_objects.specs.declared.objects.Head.TheVariants as heads
use Rattle.rp_deck_objects.specs.declared.names.OperationName.TheVariants.{Entry}
use Rattle.rp_deck_objects.specs.ObjectLimits.{HasRoomForOperation, HeadFits, HeadKeeps}
use Rattle.rp_deck_objects.proofs.Naming.{last_numbered, entry_more, named_after}
use Rattle.rp_deck_objects.proofs.ObjectLemmas.{entry_fits, entry_keeps, few_entries}
use Rattle.rp_deck_objects.proofs.objects.ObjectDraft.complete_entry.Goals as goal

pub returns-clause-object : goal.returns-clause-object
returns-clause-object c =
    let self = c.args.self.now in
    let was = c.requires.object.object in
    let begun = c.requires.operation.begun in
    let index = c.unwrap-index.result in
    let body = c.into_statements.result in
    let head : Head = heads.Entry c.args.head.0 c.args.head.1 in
    let is : c.args.operation.head ≡ head = c.requires.head in
    let room = subst (λ h. HasRoomForOperation c.args.profile self.operations h) is begun.room in
    let entry : DeclaredEntry = record { barrier = c.args.head.0; longest = c.args.head.1; body = body } in
    let after : Operations = record { functions = self.operations.functions; procedures = self.operations.procedures; entries = c.push_item.new.items } in
    let number : index.number ≡ length self.operations.entries.items + 1 = search rules in
    let has : is_some (of_index after.entries.items index.number) ≡ true =
    subst (λ l. is_some (of_index l index.number) ≡ true) (sym c.in_ok-push_item.ensures.items) (last_numbered self.operations.entries.items entry index.number number) in
    let even : length c.push_name.new.names.items ≡ length after.entries.items = omega (arith, was.entries, c.in_ok-push_name.ensures.len, c.in_ok-push_item.ensures.len) in
    on_ok_weaker c.insert_string_in_map.result (λ more. record {
      ceiling = was.ceiling;
      components = was.components;
      entries = even;
      fit = λ limits counted.
          let fits = subst (λ h. HeadFits limits h) is (begun.fits limits counted) in
          entry_fits self.operations after limits entry (few_entries c.args.profile self.operations c.args.head.0 c.args.head.1 room) c.in_ok-push_item.ensures.items refl refl (was.fit limits counted)
          (record { barrier = fits.0; some_room = fits.1; room = fits.2; body = c.into_statements.ensures.limits (values self.component_names) c.requires.operation.body limits counted });
      keeps = entry_keeps c.args.profile self.operations after entry c.in_ok-push_item.ensures.items room (subst (λ h. HeadKeeps c.args.profile h) is begun.keeps) was.keeps;
      named = named_after self.operations after self.operation_names c.insert_string_in_map.new.table (Entry index) more
          (entry_more self.operations after entry c.in_ok-push_item.ensures.items refl refl) has was.named;
      operation = search rules;
    }) c.insert_string_in_map.ensures.values
