-- The name at a place is the one with so many before it.
use Rattle.std.proofs.Common.{◌≡◌, ℕ, Some, List, [], ◌∷◌, ◌++◌, length, refl, ap, ◌∙◌}
use Rattle.std.specs.Prelude.{slice_get}
use Rattle.rp_output.specs.Trace.{or_nothing, task_name}
use Rattle.rp_run.specs.Items.{Item, Replied}
use Rattle.rp_printed_texts.proofs.names.tasks_have_their_own_names.Goals as goal

after_these : (before after : List (List ℕ)) (name : List ℕ) → slice_get (before ++ name ∷ after) (length before) ≡ Some name
after_these [] after name = refl
after_these (first ∷ before) after name = after_these before after name

pub returns : goal.returns
returns c = record {
  replies = λ before after name answer is.
      ap (λ task. Replied (task_name (before ++ name ∷ after) task) answer) is
      ∙ ap (λ found. Replied (or_nothing found) answer) (after_these before after name);
  parties = λ before after name. ap or_nothing (after_these before after name);
}
