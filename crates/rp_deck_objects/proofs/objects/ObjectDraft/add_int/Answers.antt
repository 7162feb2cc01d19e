-- A whole number more.
use Rattle.std.proofs.Common.{◌≡◌, ◌+◌, ◌∷◌, [], ◌++◌, length, rules, refl}
use Rattle.std.specs.Prelude.{IsTrue, FitsSigned}
use Rattle.std.specs.Int.{w64}
use Rattle.std.specs.FinMap.{insert, len}
use Rattle.rp_deck_bodies.specs.indexmap.specs.IndexMap.{values}
use Rattle.rp_object.specs.rp_body.specs.declared.components.Ranged.{Ranged}
use Rattle.rp_object.specs.rp_body.specs.Store.{is_within}
use Rattle.rp_object.specs.rp_entry.specs.Operations.{OperationsFit}
use Rattle.rp_deck_bodies.specs.declared.names.Component.TheVariants.{Int}
use Rattle.rp_deck_objects.proofs.ObjectLemmas.{same_components, int_more, counted_front}
use Rattle.rp_deck_objects.proofs.objects.ObjectDraft.add_int.Goals as goal

pub returns-clause-object : goal.returns-clause-object
returns-clause-object c = (
  (λ profile may.
      let self = c.args.self.now in
      let was = may.object in
      let place = c.limits.result.ints in
      let is : place ≡ len self.components.ints = search rules in
      let component : Ranged = c.args.component in
      let fits : FitsSigned w64 component.low × FitsSigned w64 component.high = (search rules, search rules) in
      let within : IsTrue (is_within component.low component.high component.value) = c.requires.in_range in
      let more = int_more self.components (length self.int_names.items) (length self.bool_names.items) (values self.component_names) component place was.components c.requires.room is fits within in
      let count : length c.push_name.new.names.items ≡ length self.int_names.items + 1 = c.in_ok-push_name.ensures.len in
      let names : values c.insert_in_map.new.table ≡ values self.component_names ++ Int place ∷ [] = c.in_ok-insert_in_map.ensures.values in
      let store : c.add_int.new.self ≡ record self.components { ints = insert self.components.ints (len self.components.ints) component } = search rules in
      record {
        ceiling = was.ceiling;
        components = same_components _ c.add_int.new.self (length self.int_names.items + 1) (length c.push_name.new.names.items) (length self.bool_names.items) (length self.bool_names.items) (values self.component_names ++ Int place ∷ []) (values c.insert_in_map.new.table)
            store count refl names more;
        entries = was.entries;
        fit = counted_front (values self.component_names) _ (Int place) (λ limits. OperationsFit limits self.operations) names was.fit;
        keeps = was.keeps;
        named = was.named;
        operation = search rules;
      }),
  search rules,
)
