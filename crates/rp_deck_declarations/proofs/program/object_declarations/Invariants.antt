use Rattle.std.proofs.Common.{◌≡◌, length, map}
use Rattle.std.specs.Prelude.{All}
use Rattle.rp_object.specs.Program.{operations_of, DeclarationFits, KeepsProfile}
use Rattle.rp_deck_objects.specs.ObjectViews.{protected_text, object_text, protected_of, object_operations, own_operations}
use Rattle.rp_deck_declarations.specs.Programs.{AreAllNamed}
use Rattle.rp_deck_declarations.proofs.program.object_declarations.Given as goal

abbrev pub ghost-finish : goal.ghost-finish
ghost-finish g a = g.profile

abbrev pub invariant-loop-draft : goal.invariant-loop-draft
invariant-loop-draft g l = record {
  objects : length l.objects.items ≡ length l.yielded;
  operations : length l.operations.items ≡ length l.yielded;
  named : AreAllNamed l.objects.items l.operations.items;
  fits : All DeclarationFits l.objects.items;
  keeps : All (λ object. KeepsProfile g.profile (operations_of object)) l.objects.items;
  text : map protected_text l.objects.items ≡ map protected_of (map object_text l.yielded);
  texts : map own_operations l.operations.items ≡ map object_operations (map object_text l.yielded);
}
