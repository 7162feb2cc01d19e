-- One object more.
use Rattle.std.proofs.Common.{◌∷◌, ◌++◌, [], map, rules, ap, sym, subst, ◌∙◌}
use Rattle.std.proofs.lemmas.List.{replicate_more}
use Rattle.rp_deck_objects.specs.ObjectViews.{own_operations}
use Rattle.rp_deck_declarations.specs.ScriptNames.{tally_operations}
use Rattle.rp_deck_declarations.proofs.Offering.{AreTallyNames, all_tally_more}
use Rattle.rp_words.proofs.TablesLemmas.{map_last}
use Rattle.rp_deck_declarations.proofs.program.tally.Goals as goal

pub loop-preserved : goal.loop-preserved
loop-preserved c = record {
  many = search rules;
  named = subst AreTallyNames (sym (c.in_ok-push.ensures.items)) (all_tally_more c.loop.operations.items c.in_ok-tally_operations.field-0 c.loop.invariant.named c.in_ok-tally_operations.ensures.named);
  texts = ap (map own_operations) c.in_ok-push.ensures.items ∙ map_last own_operations c.loop.operations.items c.in_ok-tally_operations.field-0
      ∙ (λ i. c.loop.invariant.texts i ++ c.in_ok-tally_operations.ensures.text i ∷ []) ∙ replicate_more c.loop.counter tally_operations;
}

pub returns-clause-named : goal.returns-clause-named
returns-clause-named c = c.loop.invariant.named
