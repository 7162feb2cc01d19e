use Rattle.std.proofs.Common.{◌≡◌, ◌+◌, ◌∷◌, ◌++◌, [], ℕ, List, false, rules, arith, ap, refl, sym, subst, ◌∙◌}
use Rattle.std.proofs.lemmas.Grind.{common_steps}
use Rattle.rp_words.specs.Tables.{is_declared}
use Rattle.rp_deck_declarations.specs.Drafts.{tally_names}
use Rattle.rp_deck_declarations.proofs.TallyLemmas.{tally_new, tally_more}
use Rattle.rp_deck_declarations.proofs.draft.tally_objects.Goals as goal

pub insert_in_set-requires : goal.insert_in_set-requires
insert_in_set-requires c =
    let n = c.loop-number.number in
    subst (λ (names : List (List ℕ)). is_declared c.tally_name.result.now names ≡ false) (sym c.loop-number.invariant.names)
    (subst (λ (name : List ℕ). is_declared name (tally_names n) ≡ false) (sym c.tally_name.ensures) (tally_new n (n + 1) refl (omega arith)))

pub loop-number-preserved : goal.loop-number-preserved
loop-number-preserved c =
    let n = c.loop-number.number in
    record {
      names = c.in_ok-insert_in_set.ensures.names ∙ ap (λ (l : List (List ℕ)). l ++ c.tally_name.result.now ∷ []) c.loop-number.invariant.names
          ∙ ap (λ (l : List ℕ). tally_names n ++ l ∷ []) c.tally_name.ensures ∙ sym (tally_more n (n + 1) refl);
      len = grind (arith, common_steps);
      unique = search rules;
    }
