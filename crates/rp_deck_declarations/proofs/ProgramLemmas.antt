-- The program of what is declared.
use Rattle.std.proofs.Common.{◌≡◌, List, [], ◌∷◌, ◌++◌, true, false, length, map, replicate, ap, sym, ◌∙◌}
use Rattle.std.specs.Prelude.{unwrap_or}
use Rattle.std.proofs.lemmas.Bool.{cond-true, cond-false}
use Rattle.rp_object.specs.declared.program.Handler.{Handler}
use Rattle.rp_deck_declarations.specs.Drafts.{DraftText, profile_of}
use Rattle.rp_deck_declarations.specs.DeclaredTexts.{ProgramText, Tally, Objects, DeclaredText, declared_of}
use Rattle.rp_deck_objects.specs.ObjectViews.{protected_of, OperationsText, object_operations}
use Rattle.rp_deck_declarations.specs.ScriptNames.{DeclaredNames, tally_operations, declared_names}
use Rattle.rp_words.proofs.TablesLemmas.{map_last}

-- two lists that look alike still do with one thing more of each
pub one_more : {A B C T : Type 0} (f : A → C) (g : T → C) (h : B → T) (xs more : List A) (ys : List B) (x : A) (y : B)
    → more ≡ xs ++ x ∷ [] → map f xs ≡ map g (map h ys) → f x ≡ g (h y) → map f more ≡ map g (map h (ys ++ y ∷ []))
one_more {A} {B} {C} {T} f g h xs more ys x y is so_far same =
    ap (λ (l : List A). map f l) is ∙ map_last f xs x ∙ (λ i. so_far i ++ same i ∷ []) ∙ sym (map_last g (map h ys) (h y)) ∙ ap (λ (l : List T). map g l) (sym (map_last h ys y))

-- ---- what a script may name

-- the same, but for the operations and the handlers of the timing events
abbrev pub names_with : DraftText → List OperationsText → List Handler → DeclaredNames
names_with d operations handlers = record {
  nodes = d.nodes;
  tasks = d.tasks;
  objects = d.objects;
  operations = operations;
  interrupts = d.interrupts;
  timers = d.timers;
  timer_handlers = handlers;
}

pub names_of_tally : (d : DraftText) (operations : List OperationsText) (handlers : List Handler) → d.is_tally ≡ true → operations ≡ replicate (length d.objects) tally_operations → handlers ≡ []
    → names_with d operations handlers ≡ declared_names d
names_of_tally d operations handlers tally is none =
    let all = is ∙ sym (cond-true d.is_tally (replicate (length d.objects) tally_operations) (map object_operations d.drafts) tally) in
    let no_more = none ∙ sym (cond-true d.is_tally [] d.timer_handlers tally) in
    (λ i. names_with d (all i) (no_more i))

pub names_of_objects : (d : DraftText) (operations : List OperationsText) (handlers : List Handler) → d.is_tally ≡ false → operations ≡ map object_operations d.drafts → handlers ≡ d.timer_handlers
    → names_with d operations handlers ≡ declared_names d
names_of_objects d operations handlers other is same =
    let all = is ∙ sym (cond-false d.is_tally (replicate (length d.objects) tally_operations) (map object_operations d.drafts) other) in
    let timers = same ∙ sym (cond-false d.is_tally [] d.timer_handlers other) in
    (λ i. names_with d (all i) (timers i))

-- ---- what is declared

abbrev pub declared_with : DraftText → ProgramText → DeclaredText
declared_with d program = record {
  nodes = d.nodes;
  max_positions = unwrap_or d.positions 1000;
  program = program;
  tasks = d.tasks;
  priorities = d.priorities;
  objects = d.objects;
  interrupts = d.interrupts;
  interrupt_handlers = d.interrupt_handlers;
  timers = d.timers;
  timer_handlers = d.timer_handlers;
}

pub declared_of_tally : (d : DraftText) (program : ProgramText) → d.is_tally ≡ true → program ≡ Tally (length d.objects) → declared_with d program ≡ declared_of d
declared_of_tally d program tally is =
    ap (declared_with d) (is ∙ sym (cond-true d.is_tally (Tally (length d.objects)) (Objects (profile_of d) (map protected_of d.drafts)) tally))

pub declared_of_objects : (d : DraftText) (program : ProgramText) → d.is_tally ≡ false → program ≡ Objects (profile_of d) (map protected_of d.drafts) → declared_with d program ≡ declared_of d
declared_of_objects d program other is =
    ap (declared_with d) (is ∙ sym (cond-false d.is_tally (Tally (length d.objects)) (Objects (profile_of d) (map protected_of d.drafts)) other))
