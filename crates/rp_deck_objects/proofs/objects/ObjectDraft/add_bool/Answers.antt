-- A Boolean more.
use Rattle.std.proofs.Common.{◌≡◌, ◌+◌, ◌∷◌, [], ◌++◌, length, rules, refl}
use Rattle.std.specs.FinMap.{len}
use Rattle.rp_deck_bodies.specs.indexmap.specs.IndexMap.{values}
use Rattle.rp_object.specs.rp_entry.specs.Operations.{OperationsFit}
use Rattle.rp_deck_bodies.specs.declared.names.Component.TheVariants.{Bool}
use Rattle.rp_deck_objects.proofs.ObjectLemmas.{same_components, bool_more, counted_front}
use Rattle.rp_deck_objects.proofs.objects.ObjectDraft.add_bool.Goals as goal

pub returns-clause-object : goal.returns-clause-object
returns-clause-object c = (
  (λ profile may.
      let self = c.args.self.now in
      let was = may.object in
      let place = c.limits.result.bools in
      let is : place ≡ len self.components.bools = search rules in
      let more = bool_more self.components (length self.int_names.items) (length self.bool_names.items) (values self.component_names) c.args.value place was.components c.requires.room is in
      let count : length c.push_name.new.names.items ≡ length self.bool_names.items + 1 = c.in_ok-push_name.ensures.len in
      let names : values c.insert_in_map.new.table ≡ values self.component_names ++ Bool place ∷ [] = c.in_ok-insert_in_map.ensures.values in
      record {
        ceiling = was.ceiling;
        components = same_components _ c.add_bool.new.self (length self.int_names.items) (length self.int_names.items) (length self.bool_names.items + 1) (length c.push_name.new.names.items) (values self.component_names ++ Bool place ∷ []) (values c.insert_in_map.new.table)
            c.add_bool.ensures refl count names more;
        entries = was.entries;
        fit = counted_front (values self.component_names) _ (Bool place) (λ limits. OperationsFit limits self.operations) names was.fit;
        keeps = was.keeps;
        named = was.named;
        operation = search rules;
      }),
  search rules,
)
