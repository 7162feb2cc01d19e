-- One outcome more.
use Rattle.std.proofs.Common.{◌≡◌, ℕ, suc, ◌+◌, ◌<◌, List, [], ◌∷◌, ◌++◌, length, get_or, take, arith, sym, ap, ◌∙◌, append_assoc, append-nil, ap₂, length-take}
use Rattle.std.proofs.lemmas.List.{take_more}
use Rattle.rp_explore_run.specs.declared.report_lines.Outcome.{Outcome}
use Rattle.rp_explore_run.specs.Reports.{outcome_line, outcomes_text}

module _ (names : List (List ℕ)) where
  -- the lines of some outcomes, and then that of one more
  pub outcomes_end : (number : ℕ) (outcomes : List Outcome) (outcome : Outcome)
      → outcomes_text names number (outcomes ++ outcome ∷ []) ≡ outcomes_text names number outcomes ++ outcome_line names (number + length outcomes) outcome
  outcomes_end number [] outcome = append-nil (outcome_line names number outcome) ∙ ap (λ (n : ℕ). outcome_line names n outcome) (omega arith)
  outcomes_end number (first ∷ rest) outcome =
      let same : suc number + length rest ≡ number + length (first ∷ rest) = omega arith in
      ap (λ (t : List ℕ). outcome_line names number first ++ t) (outcomes_end (suc number) rest outcome ∙ ap (λ (n : ℕ). outcomes_text names (suc number) rest ++ outcome_line names n outcome) same)
      ∙ sym (append_assoc (outcome_line names number first) (outcomes_text names (suc number) rest) (outcome_line names (number + length (first ∷ rest)) outcome))

  pub outcomes_more : (outcomes : List Outcome) (place : ℕ) (outcome other : Outcome) → place < length outcomes → outcome ≡ get_or outcomes place other
      → (before now text : List ℕ) → now ≡ before ++ outcomes_text names 1 (take place outcomes) → text ≡ now ++ outcome_line names (place + 1) outcome
      → text ≡ before ++ outcomes_text names 1 (take (place + 1) outcomes)
  outcomes_more outcomes place outcome other within is before now text so_far more =
      let front = take place outcomes in
      let number : place + 1 ≡ 1 + length front = omega (arith, length-take place outcomes, within) in
      let longer : take (place + 1) outcomes ≡ front ++ outcome ∷ [] = take_more outcomes place other within ∙ ap (λ (o : Outcome). front ++ o ∷ []) (sym is) in
      more
      ∙ ap₂ (λ (t : List ℕ) (n : ℕ). t ++ outcome_line names n outcome) so_far number
      ∙ append_assoc before (outcomes_text names 1 front) (outcome_line names (1 + length front) outcome)
      ∙ ap (λ (t : List ℕ). before ++ t) (sym (outcomes_end 1 front outcome) ∙ ap (outcomes_text names 1) (sym longer))
