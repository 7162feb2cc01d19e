-- By what an action that counts has passed.
use Rattle.std.proofs.Common.{◌≡◌, ℕ, suc, Bool, ◌&&◌, List, [], ◌∷◌, ◌++◌, refl, sym, ap, subst, ◌∙◌, inl, inr, arith, true, nat_eq}
use Rattle.std.specs.Cmp.Lexicographic.{pointwise, bytes_decides}
use Rattle.rp_object.specs.rp_base.specs.Sets.{Has}
use Rattle.rp_object.specs.rp_machine.specs.Replay.{numbers_of, one_to, is_next_number, is_answered, all_answered}
use Rattle.rp_object.specs.rp_machine.proofs.Calling.{both_true, all_true, answered, made_number, has_either, number_is_new}
use Rattle.rp_object.specs.rp_machine.proofs.Numbering.{next_numbers}
use Rattle.rp_manual.proofs.Turns.{call_named, is_one_to, number_made, is_answered_by, all_from}
use Rattle.rp_manual.proofs.counting.calls_count_in_turn.Goals as goal

pub returns : goal.returns
returns c = record {
  once = λ kept given task number object operation arg e h.
      let both = both_true (is_next_number kept task number) (all_answered kept given task) e in
      number_is_new number (numbers_of task kept) both.0 (made_number (call_named task number) kept h);
  after_the_earlier = λ kept given task number object earlier operation arg e above below.
      let both = both_true (is_next_number kept task number) (all_answered kept given task) e in
      let there : Has earlier (numbers_of task kept ++ number ∷ []) =
      subst (λ (xs : List ℕ). Has earlier xs) (sym (next_numbers kept task number both.0)) (is_one_to number earlier above (omega (arith, below))) in
      elim (has_either earlier (numbers_of task kept) (number ∷ []) there) [
        | inl before ↦ number_made task earlier kept before
        | inr last ↦ elim last [ inl same ↦ absurd (omega (arith, same, below)) | inr none ↦ absurd none ]
      ];
  answered = λ kept given task number object earlier operation arg e h.
      let both = both_true (is_next_number kept task number) (all_answered kept given task) e in
      answered task earlier given
      (all_true (is_answered given task) (numbers_of task kept) earlier both.1 (made_number (call_named task earlier) kept h));
  in_turn = λ kept given task n object operation arg numbered each.
      let next : is_next_number kept task (suc n) ≡ true =
      ap (λ (xs : List ℕ). pointwise nat_eq (one_to (suc n)) (xs ++ suc n ∷ [])) numbered ∙ (bytes_decides (one_to (suc n)) (one_to n ++ suc n ∷ [])).1 refl in
      let all : all_answered kept given task ≡ true =
      all_from (is_answered given task) (numbers_of task kept)
      (λ earlier h. is_answered_by task earlier given (each earlier (subst (λ (xs : List ℕ). Has earlier xs) numbered h))) in
      ap (λ (b : Bool). b && all_answered kept given task) next ∙ all;
}
