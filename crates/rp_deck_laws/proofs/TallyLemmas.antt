-- The text of a right deck of a tally means what is said of it.
use Rattle.std.proofs.Common.{◌≡◌, ℕ, zero, suc, ◌+◌, List, [], ◌∷◌, ◌++◌, length, map, true, Ok, arith, ap, refl, sym, subst, ◌∙◌}
use Rattle.std.specs.Prelude.{codes}
use Rattle.std.specs.Fmt.{decimal}
use Rattle.std.specs.List.{AllByRecursion}
use Rattle.rp_object.specs.declared.program.Profile.TheVariants.{Ravenscar}
use Rattle.rp_deck.specs.declared.deck.Mode.TheVariants.{Script}
use Rattle.rp_deck.specs.Meaning.{meaning_of}
use Rattle.rp_deck.specs.Script.{IsUpTo}
use Rattle.rp_deck.specs.ScriptLines.{CommandText}
use Rattle.rp_deck_declarations.specs.Drafts.{tally_names}
use Rattle.rp_deck_declarations.specs.DeclaredTexts.{declared_of}
use Rattle.rp_deck_declarations.specs.ScriptNames.{DeclaredNames, declared_names}
use Rattle.rp_deck_laws.specs.TallyTexts.{TallyText, IsTallyText, tally_draft, tally_deck}
use Rattle.rp_deck_laws.specs.TallyTexts as texts
use Rattle.rp_deck_laws.specs.ScriptText.{AreDeclared, IsCommandOf, are_names, text_of_lines, numbered_commands}
use Rattle.rp_deck_laws.specs.ScriptText as reader
use Rattle.rp_deck_laws.specs.Named.{NamedTask, object_names, task_names}
use Rattle.rp_deck_laws.specs.NamedMeanings.{command_meant}
use Rattle.rp_deck_laws.specs.RightDecks.{IsRight, IsRightObject}
use Rattle.rp_deck_laws.specs.Tallies.{NamedTally, sum_names, sum_object, called_as, tally_lines, tally_text, tally_declared, tally_meant, IsRightTally}
use Rattle.rp_deck_laws.proofs.ObjectLemmas.{long_map}
use Rattle.rp_deck_laws.proofs.DeckLemmas.{draft_meant, tasks_are, tasks_same, positions_same}
use Rattle.rp_deck_laws.proofs.CommandLemmas.{names_are_declared, commands_are, commands_same}

-- ---- one to eight sums

by_count : (P : ℕ → Type 0) → P 1 → P 2 → P 3 → P 4 → P 5 → P 6 → P 7 → P 8 → (count : ℕ) → IsUpTo 8 count → P count
by_count P a b c d e f g h zero is = absurd (omega (arith, is.0))
by_count P a b c d e f g h (suc zero) is = a
by_count P a b c d e f g h (suc (suc zero)) is = b
by_count P a b c d e f g h (suc (suc (suc zero))) is = c
by_count P a b c d e f g h (suc (suc (suc (suc zero)))) is = d
by_count P a b c d e f g h (suc (suc (suc (suc (suc zero))))) is = e
by_count P a b c d e f g h (suc (suc (suc (suc (suc (suc zero)))))) is = f
by_count P a b c d e f g h (suc (suc (suc (suc (suc (suc (suc zero))))))) is = g
by_count P a b c d e f g h (suc (suc (suc (suc (suc (suc (suc (suc zero)))))))) is = h
by_count P a b c d e f g h (suc (suc (suc (suc (suc (suc (suc (suc (suc n))))))))) is = absurd (omega (arith, is.1))

-- the reader's names of them
names_same : (count : ℕ) → IsUpTo 8 count → tally_names count ≡ sum_names count
names_same count is = by_count (λ n. tally_names n ≡ sum_names n) refl refl refl refl refl refl refl refl count is

sums_named : (count : ℕ) → IsUpTo 8 count → are_names (object_names (map sum_object (sum_names count))) ≡ true
sums_named count is = by_count (λ n. are_names (object_names (map sum_object (sum_names n))) ≡ true) refl refl refl refl refl refl refl refl count is

sums_counted : (count : ℕ) → IsUpTo 8 count → length (map sum_object (sum_names count)) ≡ count
sums_counted count is = by_count (λ n. length (map sum_object (sum_names n)) ≡ n) refl refl refl refl refl refl refl refl count is

sum_is : (name : List ℕ) → IsRightObject Ravenscar (sum_object name)
sum_is name = record {
  ceiling = (omega arith, omega arith);
  few_ints = omega arith;
  few_bools = omega arith;
  few_functions = omega arith;
  few_procedures = omega arith;
  few_entries = omega arith;
  components_named = refl;
  free = refl;
  operations_named = refl;
  parts = ((tt, omega arith), tt);
}

sums_are : (names : List (List ℕ)) → AllByRecursion (IsRightObject Ravenscar) (map sum_object names)
sums_are [] = tt
sums_are (name ∷ rest) = (sum_is name, sums_are rest)

called_right : (tally : NamedTally) → IsRightTally tally → IsRight (called_as tally)
called_right tally right = record {
  nodes = right.nodes;
  positions = right.positions;
  task_count = right.task_count;
  tasks_named = right.tasks_named;
  tasks = right.tasks;
  object_count = subst (IsUpTo 8) (sym (sums_counted tally.count right.count)) right.count;
  objects_named = sums_named tally.count right.count;
  objects = sums_are (sum_names tally.count);
  few_interrupts = omega arith;
  interrupts_named = refl;
  interrupts = tt;
  few_timers = omega arith;
  timers_named = refl;
  timers = tt;
  script = right.script;
}

-- ---- the deck

abbrev sums : NamedTally → TallyText
sums tally = record { nodes = tally.nodes; positions = tally.positions; tasks = task_names tally.tasks; priorities = map (λ task. task.priority) tally.tasks; count = tally.count }

-- the script may use the same names
script_names : (tally : NamedTally) → IsRightTally tally → declared_names (draft_meant (called_as tally)) ≡ declared_names (tally_draft (sums tally))
script_names tally right =
    by_count (λ n. declared_names (draft_meant (called_as (record tally { count = n }))) ≡ declared_names (tally_draft (sums (record tally { count = n }))))
    refl refl refl refl refl refl refl refl tally.count right.count

no_task : (tally : NamedTally) → IsRightTally tally → (length (task_names tally.tasks) ≡ 0) → ⊥
no_task tally right none = omega (arith, none, long_map (λ (task : NamedTask). task.name) tally.tasks, right.task_count.0)

sums_right : (tally : NamedTally) → IsRightTally tally → IsTallyText (sums tally)
sums_right tally right = record {
  nodes = right.nodes;
  positions = right.positions;
  some_task = no_task tally right;
  tasks = tasks_are tally.tasks [] tally.tasks refl right.task_count.1 right.tasks_named right.tasks;
  count = right.count;
}

lines_same : (tally : NamedTally) → texts.tally_lines (sums tally) ≡ tally_lines tally
lines_same tally = λ k.
    (codes "nodes" ∷ decimal tally.nodes ∷ [])
    ∷ (positions_same tally.positions k
    ++ (tasks_same tally.tasks k ++ (codes "tally" ∷ decimal tally.count ∷ []) ∷ (codes "script" ∷ []) ∷ []))

declared_same : (tally : NamedTally) → IsRightTally tally → declared_of (tally_draft (sums tally)) ≡ tally_declared tally
declared_same tally right =
    by_count (λ n. declared_of (tally_draft (sums (record tally { count = n }))) ≡ tally_declared (record tally { count = n }))
    refl refl refl refl refl refl refl refl tally.count right.count

-- every such text is read back
abbrev pub TalliesReadBack : Type 0
TalliesReadBack = (t : TallyText) (commands : List CommandText) → IsTallyText t → AreDeclared (declared_names (tally_draft t)) → AllByRecursion (IsCommandOf (declared_names (tally_draft t))) commands
    → meaning_of Script (texts.tally_text t commands) ≡ Ok (tally_deck t commands)

pub tally_means_it : TalliesReadBack → (tally : NamedTally) → IsRightTally tally → meaning_of Script (tally_text tally) ≡ Ok (tally_meant tally)
tally_means_it back tally right =
    let deck = called_as tally in
    let is = called_right tally right in
    let names = script_names tally right in
    let commands : List CommandText = map (command_meant deck) tally.script in
    let text : texts.tally_text (sums tally) commands ≡ tally_text tally =
    ap (λ (d : DeclaredNames). text_of_lines (texts.tally_lines (sums tally) ++ map (reader.command_words d) commands)) (sym names)
    ∙ (λ k. text_of_lines (lines_same tally k ++ commands_same deck is tally.script right.script k)) in
    let meant : tally_deck (sums tally) commands ≡ tally_meant tally =
    (λ k. record { declared = declared_same tally right k; script = numbered_commands (1 + length (lines_same tally k)) commands }) in
    ap (meaning_of Script) (sym text)
    ∙ back (sums tally) commands (sums_right tally right) (subst AreDeclared names (names_are_declared deck is))
    (subst (λ (d : DeclaredNames). AllByRecursion (IsCommandOf d) commands) names (commands_are deck is tally.script right.script))
    ∙ ap Ok meant
