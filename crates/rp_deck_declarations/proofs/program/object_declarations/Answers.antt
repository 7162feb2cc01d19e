-- One object more.
use Rattle.std.proofs.Common.{◌≡◌, List, length, arith, sym, subst}
use Rattle.std.specs.Prelude.{All}
use Rattle.rp_object.specs.Program.{operations_of, DeclarationFits, KeepsProfile}
use Rattle.rp_object.specs.declared.program.ObjectDeclaration.{ObjectDeclaration}
use Rattle.std.proofs.lemmas.Grind.{common_steps}
use Rattle.rp_deck_objects.specs.ObjectViews.{protected_text, object_text, protected_of, object_operations, own_operations}
use Rattle.rp_deck_objects.specs.rp_deck_bodies.proofs.ListLemmas.{all_last}
use Rattle.rp_deck_declarations.proofs.Offering.{all_named_more}
use Rattle.rp_deck_declarations.proofs.ProgramLemmas.{one_more}
use Rattle.rp_deck_declarations.proofs.program.object_declarations.Goals as goal

pub loop-draft-preserved : goal.loop-draft-preserved
loop-draft-preserved g c =
    let objects = c.loop-draft.objects.items in
    let names = c.loop-draft.operations.items in
    let drafts = c.loop-draft.yielded in
    let even : length objects ≡ length names = omega (arith, c.loop-draft.invariant.objects, c.loop-draft.invariant.operations) in
    record {
      objects = grind (arith, common_steps);
      operations = grind (arith, common_steps);
      named = all_named_more objects _ names _ c.in_ok-object.object c.in_ok-object.names even c.loop-draft.invariant.named c.in_ok-object.ensures.named
          c.in_ok-push.ensures.items c.in_ok-push-2.ensures.items;
      fits = subst (λ l. All DeclarationFits l) (sym c.in_ok-push.ensures.items) (all_last DeclarationFits objects c.in_ok-object.object c.loop-draft.invariant.fits c.in_ok-object.ensures.fits);
      keeps = subst (λ (l : List ObjectDeclaration). All (λ object. KeepsProfile g.profile (operations_of object)) l) (sym c.in_ok-push.ensures.items)
          (all_last (λ (object : ObjectDeclaration). KeepsProfile g.profile (operations_of object)) objects c.in_ok-object.object c.loop-draft.invariant.keeps c.in_ok-object.ensures.keeps);
      text = one_more protected_text protected_of object_text objects _ drafts c.in_ok-object.object c.in-Some.draft c.in_ok-push.ensures.items c.loop-draft.invariant.text
          c.in_ok-object.ensures.object;
      texts = one_more own_operations object_operations object_text names _ drafts c.in_ok-object.names c.in-Some.draft c.in_ok-push-2.ensures.items c.loop-draft.invariant.texts
          c.in_ok-object.ensures.operations;
    }
