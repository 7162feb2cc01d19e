use Rattle.std.proofs.Common.{◌≡◌, ℕ, List, length, map, replicate, inl, inr, ap, sym, subst, ◌∙◌}
use Rattle.std.proofs.lemmas.Bool.{cases_Bool}
use Rattle.rp_words.specs.indexmap.specs.IndexSet.{index_set_len}
use Rattle.rp_deck_declarations.specs.Declarations.{IsComplete}
use Rattle.rp_deck_declarations.specs.DeclaredViews.{program_text, declared_text, names_of, timer_handlers}
use Rattle.rp_deck_objects.specs.ObjectViews.{object_text, protected_of, object_operations, own_operations}
use Rattle.rp_deck_declarations.specs.DraftViews.{draft_text}
use Rattle.rp_deck_objects.specs.Objects.{ObjectText}
use Rattle.rp_deck_declarations.specs.Drafts.{profile_of}
use Rattle.rp_deck_declarations.specs.DeclaredTexts.{Tally, Objects}
use Rattle.rp_deck_declarations.specs.ScriptNames.{tally_operations}
use Rattle.rp_words.specs.Tables.{set_names}
use Rattle.rp_deck_objects.specs.declared.objects.ObjectDraft.{ObjectDraft}
use Rattle.rp_words.proofs.TablesLemmas.{same_len}
use Rattle.rp_deck_declarations.proofs.ProgramLemmas.{names_of_tally, names_of_objects, declared_of_tally, declared_of_objects}
use Rattle.rp_deck_declarations.proofs.program.finish.Goals as goal

pub returns-clause-complete : goal.returns-clause-complete
returns-clause-complete c =
    let limits = c.requires.limits in
    let made = c.in_ok-made.ensures in
    subst IsComplete (sym c.into_declared.ensures) (record {
      nodes = limits.nodes;
      tasks = limits.tasks;
      some_task = c.requires.tasks;
      objects = limits.objects;
      some_object = c.requires.objects;
      program = made.program;
      kept = made.declared;
      operations = made.operations;
      named = made.named;
      interrupts = limits.interrupts;
      timers = limits.timers;
    })

pub returns-clause-names : goal.returns-clause-names
returns-clause-names c =
    let draft = c.args.draft in
    let made = c.in_ok-made.made in
    let d = draft_text draft in
    let many : index_set_len draft.objects ≡ length (set_names draft.objects) = sym (same_len draft.objects.keys) in
    let same : map object_text c.replace-drafts.result.items ≡ map object_text draft.drafts.items = ap (λ (items : List ObjectDraft). map object_text items) (ap (λ v. v.items) c.replace-drafts.ensures.value) in
    ap names_of c.into_declared.ensures ∙ (elim (cases_Bool draft.is_tally) [
      | inl tally ↦
          let m = c.in_ok-made.ensures.tally tally in
          names_of_tally d (map own_operations made.operations.items) (timer_handlers made.program) tally (m.names ∙ ap (λ (n : ℕ). replicate n tally_operations) many) m.no_timers
      | inr other ↦
          let m = c.in_ok-made.ensures.objects other in
          names_of_objects d (map own_operations made.operations.items) (timer_handlers made.program) other (m.names ∙ ap (λ (objects : List ObjectText). map object_operations objects) same) m.timers_are
    ])

pub returns-clause-text : goal.returns-clause-text
returns-clause-text c =
    let draft = c.args.draft in
    let made = c.in_ok-made.made in
    let d = draft_text draft in
    let many : index_set_len draft.objects ≡ length (set_names draft.objects) = sym (same_len draft.objects.keys) in
    let same : map object_text c.replace-drafts.result.items ≡ map object_text draft.drafts.items = ap (λ (items : List ObjectDraft). map object_text items) (ap (λ v. v.items) c.replace-drafts.ensures.value) in
    ap declared_text c.into_declared.ensures ∙ (elim (cases_Bool draft.is_tally) [
      | inl tally ↦
          let m = c.in_ok-made.ensures.tally tally in
          declared_of_tally d (program_text made.program) tally (m.program_is ∙ ap Tally many)
      | inr other ↦
          let m = c.in_ok-made.ensures.objects other in
          declared_of_objects d (program_text made.program) other (m.program_is ∙ ap (λ (objects : List ObjectText). Objects (profile_of d) (map protected_of objects)) same)
    ])
