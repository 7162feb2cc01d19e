-- An object that keeps its limits.
use Rattle.std.proofs.Common.{◌≡◌, ◌∙◌, length, ap, arith, sym, subst}
use Rattle.rp_object.specs.rp_body.specs.Store.{limits_of}
use Rattle.rp_object.specs.rp_entry.specs.Operations.{OperationsFit}
use Rattle.rp_object.specs.rp_entry.specs.declared.operations.Operations.{Operations}
use Rattle.rp_object.specs.Program.{KeepsProfile}
use Rattle.rp_deck_objects.specs.ObjectLimits.{AreNamed}
use Rattle.rp_deck_objects.specs.ObjectViews.{object_text, protected_of}
use Rattle.rp_deck_objects.proofs.objects.ObjectDraft.finish.Goals as goal

pub returns-clause-fits : goal.returns-clause-fits
returns-clause-fits g c =
    let self = c.args.self in
    let k = c.requires.components in
    let limits = limits_of self.components in
    record {
      ceiling = c.requires.ceiling;
      few_ints = omega (arith, k.ints, k.few_ints);
      few_bools = omega (arith, k.bools, k.few_bools);
      ints = k.ints;
      bools = k.bools;
      entries = subst (λ operations. length self.entry_names.items ≡ length operations.entries.items) (sym (c.in_ok-operations.ensures.ok ∙ c.replace-taken.ensures.value)) c.requires.entries;
      numbered = k.numbered;
      ends = k.ends;
      in_range = k.in_range;
      operations = subst (λ operations. OperationsFit limits operations) (sym (c.in_ok-operations.ensures.ok ∙ c.replace-taken.ensures.value)) (c.requires.fit limits k.counted);
    }

pub returns-clause-keeps : goal.returns-clause-keeps
returns-clause-keeps g c = subst (λ operations. KeepsProfile g.profile operations) (sym (c.in_ok-operations.ensures.ok ∙ c.replace-taken.ensures.value)) c.requires.keeps

pub returns-clause-named : goal.returns-clause-named
returns-clause-named g c =
    subst (λ operations. AreNamed operations c.args.self.operation_names) (sym (c.in_ok-operations.ensures.ok ∙ c.replace-taken.ensures.value)) c.requires.named

pub returns-clause-object : goal.returns-clause-object
returns-clause-object g c =
    ap (λ (operations : Operations). protected_of (object_text (record c.args.self { operations = operations }))) (c.in_ok-operations.ensures.ok ∙ c.replace-taken.ensures.value)
