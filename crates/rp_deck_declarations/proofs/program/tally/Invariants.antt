use Rattle.std.proofs.Common.{◌≡◌, length, map}
use Rattle.std.specs.Prelude.{replicate}
use Rattle.rp_deck_declarations.specs.ScriptNames.{tally_operations}
use Rattle.rp_deck_objects.specs.ObjectViews.{own_operations}
use Rattle.rp_deck_declarations.proofs.Offering.{AreTallyNames}
use Rattle.rp_deck_declarations.proofs.program.tally.Given as goal

abbrev pub invariant-loop : goal.invariant-loop
invariant-loop l = record {
  many : length l.operations.items ≡ l.counter;
  named : AreTallyNames l.operations.items;
  texts : map own_operations l.operations.items ≡ replicate l.counter tally_operations;
}
