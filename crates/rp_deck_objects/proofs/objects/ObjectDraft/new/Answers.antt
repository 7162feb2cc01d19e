-- An object that has nothing yet.
use Rattle.std.proofs.Common.{◌≡◌, [], ◌∙◌, length, rules, sym, ap, subst}
use Rattle.rp_deck_bodies.specs.indexmap.specs.IndexMap.{values}
use Rattle.rp_deck_objects.specs.ObjectLimits.{KeepsComponents}
use Rattle.rp_deck_objects.proofs.ObjectLemmas.{no_components, no_operations, no_entries}
use Rattle.rp_deck_objects.proofs.objects.ObjectDraft.new.Goals as goal

pub returns-clause-object : goal.returns-clause-object
returns-clause-object c =
    let none : values c.new-2.result ≡ [] = search rules in
    let ints : length c.new-3.result.items ≡ 0 = ap length c.new-3.ensures.items in
    let bools : length c.new-4.result.items ≡ 0 = ap length c.new-4.ensures.items in
    λ profile. record {
      ceiling = c.requires;
      components = subst (λ n. KeepsComponents c.new.result n (length c.new-4.result.items) (values c.new-2.result)) (sym ints)
          (subst (λ n. KeepsComponents c.new.result 0 n (values c.new-2.result)) (sym bools) (no_components c.new.result (values c.new-2.result) c.new.ensures.ints c.new.ensures.bools none));
      entries = ap length c.new-6.ensures.items ∙ sym (ap length c.no_operations.ensures.entries);
      fit = λ limits counted. no_operations _ limits c.no_operations.ensures.functions c.no_operations.ensures.procedures c.no_operations.ensures.entries;
      keeps = no_entries profile _ c.no_operations.ensures.entries;
      named = search rules;
      operation = tt;
    }
