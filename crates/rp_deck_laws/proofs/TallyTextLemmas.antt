-- The text of a deck whose objects are a tally is read back.
use Rattle.std.proofs.Common.{◌≡◌, ℕ, zero, suc, ◌+◌, ◌<◌, ◌≤◌, List, [], ◌∷◌, ◌++◌, true, false, length, map, Option, Some, None, Result, Ok, nat_lt, arith, ap, refl, sym, ◌∙◌, append_assoc, length-append}
use Rattle.std.specs.Prelude.{codes, IfSome}
use Rattle.std.specs.Fmt.{decimal}
use Rattle.std.proofs.lemmas.List.{append-nil}
use Rattle.std.proofs.lemmas.Bool.{lt-ltb}
use Rattle.std.proofs.lemmas.Bool.Decides.{nat_tests}
use Rattle.rp_deck.specs.rp_base.specs.declared.fault.DeckReason.{DeckReason}
use Rattle.rp_deck.specs.declared.deck.Mode.TheVariants.{Script}
use Rattle.rp_deck_declarations.specs.declared.draft.Kind.{Kind}
use Rattle.rp_deck_declarations.specs.declared.draft.Kind.TheVariants as kinds
use Rattle.rp_deck_declarations.specs.Declaring.{on_line, declaring_line, declarations_from, declarations_of}
use Rattle.rp_deck_declarations.specs.Drafts.{DraftText, empty_draft, is_empty, kind_of, nodes_line, positions_line, task_line, tally_name, tally_names, tally_line, declaration_line, script_line}
use Rattle.rp_words.specs.Lines.{LineText}
use Rattle.rp_deck.specs.Meaning.{texts_of, line_after, deck_of, meaning_of}
use Rattle.rp_words.specs.Reading.{new_name_at}
use Rattle.rp_deck.specs.Script.{IsUpTo}
use Rattle.rp_deck.specs.ScriptLines.{CommandText, script_of}
use Rattle.rp_deck_declarations.specs.ScriptNames.{declared_names}
use Rattle.rp_deck_laws.specs.ScriptText.{numbered_lines, text_of_lines, spaced, line_of, command_words, numbered_commands, AreDeclared, IsCommandOf}
use Rattle.std.specs.List.{AllByRecursion}
use Rattle.rp_words.specs.Tables.{is_declared}
use Rattle.rp_deck_laws.specs.TallyTexts.{TallyText, positions_words, task_words, tally_lines, tally_draft, tally_text, tally_deck, AreTasks, IsTallyText}
use Rattle.rp_words.specs.Words.{is_name}
use Rattle.rp_deck_laws.proofs.SpacedLemmas.{name_solid, decimal_solid, name_back, number_back, end_back}
use Rattle.rp_deck_declarations.proofs.DeclaringLemmas.{next_line, script_ends}
use Rattle.rp_deck_laws.proofs.TextsLemmas.{numbered_append, AreLines, texts_back, script_back, script_lines}

-- ---- lines of a draft without objects

-- the tasks of a tally that was not declared yet
abbrev task_draft : ℕ → Option ℕ → List (List ℕ) → List ℕ → DraftText
task_draft nodes positions tasks priorities = record {
  nodes = nodes;
  positions = positions;
  profile = None;
  is_tally = false;
  tasks = tasks;
  priorities = priorities;
  objects = [];
  drafts = [];
  interrupts = [];
  interrupt_handlers = [];
  timers = [];
  timer_handlers = [];
}

pub nodes_back : (number nodes : ℕ) → 3 ≤ nodes → nodes ≤ 7 → nodes_line (line_of number (codes "nodes" ∷ decimal nodes ∷ [])) ≡ Ok nodes
unfolding nodes_line
nodes_back number nodes least most = rw (number_back 3 7 nodes [] least most (omega (arith, most)), end_back) refl

pub positions_back : (d : DraftText) (positions : ℕ) → IsUpTo 65535 positions → positions_line d (spaced (decimal positions ∷ [])) ≡ Ok (record d { positions = Some positions })
unfolding positions_line
positions_back d positions is = rw (number_back 1 65535 positions [] is.0 is.1 (omega (arith, is.1)), end_back) refl

pub new_back : (names : List (List ℕ)) (name : List ℕ) (words : List (List ℕ)) → is_name name ≡ true → is_declared name names ≡ false → new_name_at names (spaced (name ∷ words)) ≡ Ok (name, spaced words)
unfolding new_name_at
new_back names name words is new = rw (name_back name words is, new) refl

few_tasks : (tasks : List (List ℕ)) → length tasks < 8 → nat_lt (length tasks) 8 ≡ true
few_tasks tasks few = lt-ltb (length tasks) 8 few

pub task_back : (d : DraftText) (name : List ℕ) (priority : ℕ) → length d.tasks < 8 → is_name name ≡ true → is_declared name d.tasks ≡ false → IsUpTo 30 priority
    → task_line d (spaced (name ∷ decimal priority ∷ [])) ≡ Ok (record d { tasks = d.tasks ++ name ∷ []; priorities = d.priorities ++ priority ∷ [] })
unfolding task_line
task_back d name priority few is new range =
    rw (few_tasks d.tasks few, new_back d.tasks name (decimal priority ∷ []) is new, number_back 1 30 priority [] range.0 range.1 (omega (arith, range.1)), end_back) refl

tally_back : (d : DraftText) (count : ℕ) → IsUpTo 8 count → tally_line d (spaced (decimal count ∷ [])) ≡ Ok (record d { objects = tally_names count; is_tally = true })
unfolding tally_line
tally_back d count is = rw (number_back 1 8 count [] is.0 is.1 (omega (arith, is.1)), end_back) refl

-- ---- one line after another

pub of_kind : (d : DraftText) (number : ℕ) (first : List ℕ) (words : List (List ℕ)) (kind : Kind) (after : DraftText) → kind_of d first ≡ Some kind → declaration_line d kind (spaced words) ≡ Ok after
    → declaring_line d (line_of number (first ∷ words)) ≡ Ok after
unfolding declaring_line
of_kind d number first words kind after is read = rw (is, read) refl

positions_after : (last number nodes : ℕ) (positions : Option ℕ) (rest : List LineText) → IfSome positions (IsUpTo 65535)
    → declarations_from last (task_draft nodes None [] []) (numbered_lines number (positions_words positions) ++ rest) ≡ declarations_from last (task_draft nodes positions [] []) rest
positions_after last number nodes None rest is = refl
positions_after last number nodes (Some positions) rest is =
    next_line last (task_draft nodes None [] []) (line_of number (codes "positions" ∷ decimal positions ∷ [])) rest (task_draft nodes (Some positions) [] []) refl
    (of_kind (task_draft nodes None [] []) number (codes "positions") (decimal positions ∷ []) kinds.Positions (task_draft nodes (Some positions) [] []) refl (positions_back (task_draft nodes None [] []) positions is))

tasks_after : (last number nodes : ℕ) (positions : Option ℕ) (before : List (List ℕ)) (of : List ℕ) (tasks : List (List ℕ)) (priorities : List ℕ) (rest : List LineText) → AreTasks before tasks priorities
    → declarations_from last (task_draft nodes positions before of) (numbered_lines number (task_words tasks priorities) ++ rest) ≡ declarations_from last (task_draft nodes positions (before ++ tasks) (of ++ priorities)) rest
tasks_after last number nodes positions before of [] [] rest are =
    (λ i. declarations_from last (task_draft nodes positions (sym (append-nil before) i) (sym (append-nil of) i)) rest)
tasks_after last number nodes positions before of [] (priority ∷ priorities) rest are = absurd are
tasks_after last number nodes positions before of (task ∷ tasks) [] rest are = absurd are
tasks_after last number nodes positions before of (task ∷ tasks) (priority ∷ priorities) rest are =
    let d : DraftText = task_draft nodes positions before of in
    let after : DraftText = task_draft nodes positions (before ++ task ∷ []) (of ++ priority ∷ []) in
    next_line last d (line_of number (codes "task" ∷ task ∷ decimal priority ∷ [])) (numbered_lines (number + 1) (task_words tasks priorities) ++ rest) after refl
    (of_kind d number (codes "task") (task ∷ decimal priority ∷ []) kinds.Task after refl (task_back d task priority are.0 are.1 are.2 are.3))
    ∙ tasks_after last (number + 1) nodes positions (before ++ task ∷ []) (of ++ priority ∷ []) tasks priorities rest are.4
    ∙ (λ i. declarations_from last (task_draft nodes positions (append_assoc before (task ∷ []) tasks i) (append_assoc of (priority ∷ []) priorities i)) rest)

-- at `script`
pub script_here : (d : DraftText) → is_empty d.tasks ≡ false → is_empty d.objects ≡ false → script_line d (spaced []) ≡ Ok tt
unfolding script_line
script_here d tasks objects = rw (tasks, objects, end_back) refl

some_names : (count : ℕ) → 1 ≤ count → is_empty (tally_names count) ≡ false
some_names zero some = absurd (omega (arith, some))
some_names (suc count) some = let long : 0 < length (tally_names (suc count)) = omega (arith, length-append (tally_names count) (tally_name (suc count) ∷ [])) in grind (arith, nat_tests)

some_tasks : (tasks : List (List ℕ)) → ((length tasks ≡ 0) → ⊥) → is_empty tasks ≡ false
some_tasks [] some = absurd (some refl)
some_tasks (task ∷ tasks) some = let long : 0 < length (task ∷ tasks) = omega arith in grind (arith, nat_tests)

-- the tally and `script`
tally_after : (last number nodes : ℕ) (positions : Option ℕ) (tasks : List (List ℕ)) (priorities : List ℕ) (count : ℕ) (rest : List LineText) → ((length tasks ≡ 0) → ⊥) → IsUpTo 8 count
    → declarations_from last (task_draft nodes positions tasks priorities) (numbered_lines number ((codes "tally" ∷ decimal count ∷ []) ∷ (codes "script" ∷ []) ∷ []) ++ rest)
    ≡ Ok (tally_draft (record { nodes = nodes; positions = positions; tasks = tasks; priorities = priorities; count = count }), rest)
tally_after last number nodes positions tasks priorities count rest some is =
    let d : DraftText = task_draft nodes positions tasks priorities in
    let after : DraftText = tally_draft (record { nodes = nodes; positions = positions; tasks = tasks; priorities = priorities; count = count }) in
    next_line last d (line_of number (codes "tally" ∷ decimal count ∷ [])) (line_of (number + 1) (codes "script" ∷ []) ∷ rest) after refl
    (of_kind d number (codes "tally") (decimal count ∷ []) kinds.Tally after refl (tally_back d count is))
    ∙ script_ends last after (line_of (number + 1) (codes "script" ∷ [])) rest refl (script_here after (some_tasks tasks some) (some_names count is.0))

declared_first : (last : ℕ) (t : TallyText) (rest : List LineText) → IsTallyText t → declarations_of last (numbered_lines 1 (tally_lines t) ++ rest) ≡ Ok (tally_draft t, rest)
unfolding declarations_of
declared_first last t rest is =
    let first = positions_words t.positions in
    let second = task_words t.tasks t.priorities in
    let third : List (List (List ℕ)) = (codes "tally" ∷ decimal t.count ∷ []) ∷ (codes "script" ∷ []) ∷ [] in
    let two : ℕ = 1 + 1 in
    let three : ℕ = two + length first in
    let four : ℕ = three + length second in
    let shape : numbered_lines two (first ++ (second ++ third)) ++ rest ≡ numbered_lines two first ++ (numbered_lines three second ++ (numbered_lines four third ++ rest)) =
    ap (λ (l : List LineText). l ++ rest) (numbered_append two first (second ++ third) ∙ ap (λ (l : List LineText). numbered_lines two first ++ l) (numbered_append three second third))
    ∙ append_assoc (numbered_lines two first) (numbered_lines three second ++ numbered_lines four third) rest
    ∙ ap (λ (l : List LineText). numbered_lines two first ++ l) (append_assoc (numbered_lines three second) (numbered_lines four third) rest) in
    ap (λ (r : Result ℕ DeckReason). on_line 1 r (λ nodes. declarations_from last (empty_draft nodes) (numbered_lines two (first ++ (second ++ third)) ++ rest))) (nodes_back 1 t.nodes is.nodes.0 is.nodes.1)
    ∙ ap (declarations_from last (task_draft t.nodes None [] [])) shape
    ∙ positions_after last two t.nodes t.positions (numbered_lines three second ++ (numbered_lines four third ++ rest)) is.positions
    ∙ tasks_after last three t.nodes t.positions [] [] t.tasks t.priorities (numbered_lines four third ++ rest) is.tasks
    ∙ tally_after last four t.nodes t.positions t.tasks t.priorities t.count rest is.some_task is.count

-- ---- the whole deck

pub lines_append : (one two : List (List (List ℕ))) → AreLines one → AreLines two → AreLines (one ++ two)
lines_append [] two a b = b
lines_append (words ∷ one) two a b = (a.0, lines_append one two a.1 b)

pub positions_lines : (positions : Option ℕ) → IfSome positions (IsUpTo 65535) → AreLines (positions_words positions)
positions_lines None is = tt
positions_lines (Some positions) is = ((refl, refl, (decimal_solid positions (omega (arith, is.1)), tt)), tt)

pub task_lines : (before tasks : List (List ℕ)) (priorities : List ℕ) → AreTasks before tasks priorities → AreLines (task_words tasks priorities)
task_lines before [] [] are = tt
task_lines before [] (priority ∷ priorities) are = absurd are
task_lines before (task ∷ tasks) [] are = absurd are
task_lines before (task ∷ tasks) (priority ∷ priorities) are =
    ((refl, refl, (name_solid task are.1, (decimal_solid priority (omega (arith, are.3.1)), tt))), task_lines (before ++ task ∷ []) tasks priorities are.4)

tally_are_lines : (t : TallyText) → IsTallyText t → AreLines (tally_lines t)
tally_are_lines t is = (
  (refl, refl, (decimal_solid t.nodes (omega (arith, is.nodes.1)), tt)),
  lines_append (positions_words t.positions) _ (positions_lines t.positions is.positions)
      (lines_append (task_words t.tasks t.priorities) _ (task_lines [] t.tasks t.priorities is.tasks)
      ((refl, refl, (decimal_solid t.count (omega (arith, is.count.1)), tt)), ((refl, refl, tt), tt))),
)

-- the lines up to `script` that mean a draft, and then commands of it
pub whole_back : (lines : List (List (List ℕ))) (draft : DraftText) (commands : List CommandText) → AreLines lines
    → ((last : ℕ) (rest : List LineText) → declarations_of last (numbered_lines 1 lines ++ rest) ≡ Ok (draft, rest))
    → AreDeclared (declared_names draft) → AllByRecursion (IsCommandOf (declared_names draft)) commands
    → meaning_of Script (text_of_lines (lines ++ map (command_words (declared_names draft)) commands)) ≡ Ok (deck_of draft (numbered_commands (1 + length lines) commands))
unfolding meaning_of
whole_back lines draft commands are_lines means right are =
    let d = declared_names draft in
    let script : List (List (List ℕ)) = map (command_words d) commands in
    let text : List ℕ = text_of_lines (lines ++ script) in
    let following : ℕ = 1 + length lines in
    let read : texts_of text ≡ numbered_lines 1 lines ++ numbered_lines following script =
    texts_back 1 (lines ++ script) (lines_append lines script are_lines (script_lines d commands right are)) ∙ numbered_append 1 lines script in
    let declared : declarations_of (line_after text) (texts_of text) ≡ Ok (draft, numbered_lines following script) =
    ap (declarations_of (line_after text)) read ∙ means (line_after text) (numbered_lines following script) in
    let scripted : script_of Script d (numbered_lines following script) ≡ Ok (numbered_commands following commands) = script_back d following commands right are in
    rw (declared, scripted) refl

pub tally_back_whole : (t : TallyText) (commands : List CommandText) → IsTallyText t → AreDeclared (declared_names (tally_draft t)) → AllByRecursion (IsCommandOf (declared_names (tally_draft t))) commands
    → meaning_of Script (tally_text t commands) ≡ Ok (tally_deck t commands)
tally_back_whole t commands is =
    whole_back (tally_lines t) (tally_draft t) commands (tally_are_lines t is) (λ last rest. declared_first last t rest is)
