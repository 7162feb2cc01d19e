use Rattle.std.proofs.Common.{◌≡◌, false, sym, subst}
use Rattle.rp_deck_bodies.specs.indexmap.specs.IndexMap.{values}
use Rattle.rp_words.specs.Tables.{is_declared, key_names}
use Rattle.rp_deck_objects.proofs.objects.ObjectDraft.begin.Goals as goal

pub returns-clause-object : goal.returns-clause-object
returns-clause-object c = λ profile may begun. record {
  ceiling = may.object.ceiling;
  components = may.object.components;
  entries = may.object.entries;
  fit = may.object.fit;
  keeps = may.object.keeps;
  named = may.object.named;
  operation = record { begun = record { room = begun.room; new = subst (λ bytes. is_declared bytes (key_names c.args.self.now.operation_names) ≡ false) (sym c.in_ok-name.ensures.ok) begun.new; fits = begun.fits; keeps = begun.keeps }; body = c.new-body.ensures.limits (values c.args.self.now.component_names) };
}
