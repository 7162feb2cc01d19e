-- The declarations of a right deck are right for the reader, have the lines that they are written
-- as, and make what the deck means.
use Rattle.std.proofs.Common.{◌≡◌, ℕ, suc, ◌<◌, ◌≤◌, ◌==◌, List, [], ◌∷◌, ◌++◌, true, false, length, map, Option, Some, None, arith, inl, inr, ap, refl, sym, subst, ◌∙◌, append_assoc, length-append}
use Rattle.std.specs.Prelude.{flat_map, codes, slice_get, option_map}
use Rattle.std.specs.Fmt.{decimal}
use Rattle.std.specs.List.{AllByRecursion}
use Rattle.std.specs.Str.{bytes_eq}
use Rattle.std.proofs.lemmas.Bool.{cases_Bool, cond-true, cond-false}
use Rattle.std.proofs.lemmas.List.{append-nil}
use Rattle.std.proofs.lemmas.Option.{slice_get-map}
use Rattle.rp_object.specs.declared.program.Profile.{Profile}
use Rattle.rp_object.specs.declared.program.Profile.TheVariants.{Ravenscar, Jorvik}
use Rattle.rp_deck_declarations.specs.Drafts.{DraftText, profile_of, is_empty}
use Rattle.rp_deck_declarations.specs.DeclaredTexts.{declared_of, Objects}
use Rattle.rp_words.specs.Tables.{place_of}
use Rattle.rp_deck.specs.rp_base.specs.declared.action.Operation.TheVariants as operations
use Rattle.std.proofs.lemmas.Bool.Decides.{nat_tests}
use Rattle.rp_deck_declarations.specs.rp_deck_objects.specs.Objects.{ObjectText, empty_object}
use Rattle.rp_deck_declarations.specs.rp_deck_objects.specs.ObjectViews.{ProtectedText, protected_of}
use Rattle.rp_deck_laws.specs.ScriptText.{are_names}
use Rattle.rp_deck_laws.specs.TallyTexts.{positions_words, task_words, AreTasks}
use Rattle.rp_deck_laws.specs.PartTexts.{ArePartsOf, IsNew}
use Rattle.rp_deck_laws.specs.ObjectTexts.{DeclaredObject, DeclaredHandler, with_object, AreObjectsOf, with_objects, handler_of, IsHandlerOf, with_interrupt, with_timer, with_interrupts, with_timers, AreInterruptsOf, AreTimersOf, handlers_lines, ObjectsText, tasks_draft, objects_draft, declared_lines, profile_words, IsObjectsText}
use Rattle.rp_deck_laws.specs.ObjectTexts as objects_of
use Rattle.rp_deck_laws.specs.Names.{IsAmong, place_in, number_in}
use Rattle.rp_deck_laws.specs.Named.{NamedTask, NamedPart, NamedObject, NamedHandler, NamedDeck, procedure_names, operation_names, task_names, object_names, handler_names}
use Rattle.rp_deck_laws.specs.NamedTexts as written
use Rattle.rp_deck_laws.specs.NamedMeanings.{object_meant, parts_named, handler_meant, declared_meant}
use Rattle.rp_deck_laws.specs.RightDecks.{IsRightObject, IsRightHandler, IsRightTask, IsRight}
use Rattle.rp_deck_laws.proofs.NameLemmas.{among_rest, place_here, place_later, place_of_is, names_new, name_among}
use Rattle.rp_deck_laws.proofs.ObjectLemmas.{so_far, part_text, whole_is, map_both, long_map}
use Rattle.rp_deck_laws.proofs.PartLemmas.{parts_are, parts_same}
use Rattle.rp_deck_laws.proofs.OperationLemmas.{procedures_are, procedure_found}

-- ---- names after one another

split_map : {X : Type 0} (name : X → List ℕ) (before rest all : List X) → before ++ rest ≡ all → map name all ≡ map name before ++ map name rest
split_map {X} name before rest all e = ap (λ (l : List X). map name l) (sym e) ∙ map_both name before rest

new_named : {X : Type 0} (name : X → List ℕ) (before rest all : List X) (x : X) → before ++ x ∷ rest ≡ all → are_names (map name all) ≡ true → IsNew (map name before) (name x)
new_named name before rest all x e right =
    let new = names_new (map name before) (map name rest) (name x) (ap are_names (sym (split_map name before (x ∷ rest) all e)) ∙ right) in
    (new.0, new.1)

room_for : {X : Type 0} (name : X → List ℕ) (before rest all : List X) (x : X) → before ++ x ∷ rest ≡ all → length all ≤ 8 → length (map name before) < 8
room_for name before rest all x e few = omega (arith, ap length e, length-append before (x ∷ rest), long_map name before)

-- ---- tasks

pub tasks_are : (all before rest : List NamedTask) → before ++ rest ≡ all → length all ≤ 8 → are_names (task_names all) ≡ true → AllByRecursion IsRightTask rest
    → AreTasks (task_names before) (task_names rest) (map (λ task. task.priority) rest)
tasks_are all before [] e few names are = tt
tasks_are all before (task ∷ rest) e few names are =
    let new = new_named (λ (it : NamedTask). it.name) before rest all task e names in (
      room_for (λ (it : NamedTask). it.name) before rest all task e few,
      new.0,
      new.1,
      are.0,
      subst (λ (l : List (List ℕ)). AreTasks l (task_names rest) (map (λ it. it.priority) rest)) (map_both (λ (it : NamedTask). it.name) before (task ∷ []))
          (tasks_are all (before ++ task ∷ []) rest (append_assoc before (task ∷ []) rest ∙ e) few names are.1),
    )

pub tasks_same : (tasks : List NamedTask) → task_words (task_names tasks) (map (λ task. task.priority) tasks) ≡ map written.task_line tasks
tasks_same [] = refl
tasks_same (task ∷ rest) = ap (λ (l : List (List (List ℕ))). written.task_line task ∷ l) (tasks_same rest)

-- ---- objects

abbrev pub declared_object : NamedObject → DeclaredObject
declared_object object = record { name = object.name; ceiling = object.ceiling; parts = map (part_text object) object.parts }

abbrev pub whole : NamedObject → ObjectText
whole object = so_far object object.parts

objects_are : (profile : Profile) (all : List NamedObject) (d : DraftText) (before rest : List NamedObject) → d.objects ≡ object_names before → profile_of d ≡ profile → before ++ rest ≡ all → length all ≤ 8 → are_names (object_names all) ≡ true
    → AllByRecursion (IsRightObject profile) rest → AreObjectsOf d (map declared_object rest)
objects_are profile all d before [] names kept e few right are = tt
objects_are profile all d before (object ∷ rest) names kept e few right are =
    let new = new_named (λ (it : NamedObject). it.name) before rest all object e right in (
      (
        subst (λ (l : List (List ℕ)). length l < 8) (sym names) (room_for (λ (it : NamedObject). it.name) before rest all object e few),
        subst (λ (l : List (List ℕ)). IsNew l object.name) (sym names) new,
        are.0.ceiling,
        subst (λ (p : Profile). ArePartsOf p (empty_object object.name object.ceiling) (map (part_text object) object.parts)) (sym kept) (parts_are profile object are.0 [] object.parts refl are.0.parts),
      ),
      objects_are profile all (with_object d (declared_object object)) (before ++ object ∷ []) rest
          (ap (λ (l : List (List ℕ)). l ++ object.name ∷ []) names ∙ sym (map_both (λ (it : NamedObject). it.name) before (object ∷ []))) kept (append_assoc before (object ∷ []) rest ∙ e) few right are.1,
    )

with_objects_is : (d : DraftText) (rest : List NamedObject) → with_objects d (map declared_object rest) ≡ record d { objects = d.objects ++ object_names rest; drafts = d.drafts ++ map whole rest }
with_objects_is d [] = λ k. record d { objects = sym (append-nil d.objects) k; drafts = sym (append-nil d.drafts) k }
with_objects_is d (object ∷ rest) =
    with_objects_is (with_object d (declared_object object)) rest
    ∙ (λ k. record d {
      objects = append_assoc d.objects (object.name ∷ []) (object_names rest) k;
      drafts = (ap (λ (o : ObjectText). (d.drafts ++ o ∷ []) ++ map whole rest) (whole_is object) ∙ append_assoc d.drafts (whole object ∷ []) (map whole rest)) k;
    })

objects_same : (profile : Profile) (rest : List NamedObject) → AllByRecursion (IsRightObject profile) rest → objects_of.objects_lines profile (map declared_object rest) ≡ flat_map (written.named_object_lines profile) rest
objects_same profile [] are = refl
objects_same profile (object ∷ rest) are =
    λ k. ((codes "object" ∷ object.name ∷ decimal object.ceiling ∷ []) ∷ parts_same profile object are.0 [] object.parts refl are.0.parts k) ++ objects_same profile rest are.1 k

-- the object of a name
pub record At (profile : Profile) (all : List NamedObject) (name : List ℕ) : Type 0 where
  pub object : NamedObject
  pub there : slice_get all (place_in name (object_names all)) ≡ Some object
  pub parts_are : parts_named all name ≡ object.parts
  pub is : IsRightObject profile object

pub object_at : (profile : Profile) (all : List NamedObject) (name : List ℕ) → AllByRecursion (IsRightObject profile) all → IsAmong name (object_names all) → At profile all name
object_at profile [] name are among = absurd cc
object_at profile (object ∷ rest) name are among = elim (cases_Bool (bytes_eq name object.name)) [
  | inl hit ↦ record {
    object = object;
    there = ap (slice_get (object ∷ rest)) (place_here name object.name (object_names rest) hit);
    parts_are = cond-true (bytes_eq name object.name) object.parts (parts_named rest name) hit;
    is = are.0;
  }
  | inr miss ↦
      let found = object_at profile rest name are.1 (among_rest name object.name (object_names rest) miss among) in
      let next : place_in name (object.name ∷ object_names rest) ≡ suc (place_in name (object_names rest)) = omega (arith, place_later name object.name (object_names rest) miss) in
      record {
        object = found.object;
        there = ap (slice_get (object ∷ rest)) next ∙ found.there;
        parts_are = cond-false (bytes_eq name object.name) object.parts (parts_named rest name) miss ∙ found.parts_are;
        is = found.is;
      }
]

-- ---- handlers

abbrev pub declared_handler : List NamedObject → NamedHandler → DeclaredHandler
declared_handler objects handler = record {
  name = handler.name;
  object = handler.object;
  procedure = handler.procedure;
  place = place_in handler.object (object_names objects);
  number = number_in handler.procedure (procedure_names (parts_named objects handler.object));
}

module _ (profile : Profile) (objects : List NamedObject) (right : AllByRecursion (IsRightObject profile) objects) (names : are_names (object_names objects) ≡ true) where
  -- the objects are declared in the draft
  abbrev HasThem : DraftText → Type 0
  HasThem d = (d.objects ≡ object_names objects) × (d.drafts ≡ map whole objects)

  handler_is : (d : DraftText) (handler : NamedHandler) → HasThem d → IsRightHandler objects handler → IsHandlerOf d (declared_handler objects handler)
  handler_is d handler has is =
      let found = object_at profile objects handler.object right is.object in
      let all : List NamedPart = found.object.parts in
      let among : IsAmong handler.procedure (procedure_names all) = subst (λ (l : List NamedPart). IsAmong handler.procedure (procedure_names l)) found.parts_are is.procedure in
      record {
        holder = whole found.object;
        object_is = (name_among (object_names objects) handler.object names is.object, refl);
        procedure_is = (name_among (operation_names all) handler.procedure found.is.operations_named (procedures_are all handler.procedure among), refl);
        place = ap (λ (l : List (List ℕ)). place_of handler.object l) has.0 ∙ place_of_is handler.object (object_names objects) is.object;
        holder_is = ap (λ (l : List ObjectText). slice_get l (place_in handler.object (object_names objects))) has.1 ∙ slice_get-map whole objects (place_in handler.object (object_names objects)) ∙ ap (option_map whole) found.there;
        number = procedure_found all handler.procedure found.is.operations_named among ∙ ap (λ (l : List NamedPart). Some (operations.Procedure (number_in handler.procedure (procedure_names l)))) (sym found.parts_are);
      }

  interrupts_are : (all : List NamedHandler) (d : DraftText) (before rest : List NamedHandler) → HasThem d → d.interrupts ≡ handler_names before → before ++ rest ≡ all → length all ≤ 8 → are_names (handler_names all) ≡ true
      → AllByRecursion (IsRightHandler objects) rest → AreInterruptsOf d (map (declared_handler objects) rest)
  interrupts_are all d before [] has before_names e few right_names are = tt
  interrupts_are all d before (handler ∷ rest) has before_names e few right_names are = (
    subst (λ (l : List (List ℕ)). length l < 8) (sym before_names) (room_for (λ (it : NamedHandler). it.name) before rest all handler e few),
    subst (λ (l : List (List ℕ)). IsNew l handler.name) (sym before_names) (new_named (λ (it : NamedHandler). it.name) before rest all handler e right_names),
    handler_is d handler has are.0,
    interrupts_are all (with_interrupt d (declared_handler objects handler)) (before ++ handler ∷ []) rest has
        (ap (λ (l : List (List ℕ)). l ++ handler.name ∷ []) before_names ∙ sym (map_both (λ (it : NamedHandler). it.name) before (handler ∷ []))) (append_assoc before (handler ∷ []) rest ∙ e) few right_names are.1,
  )

  timers_are : (all : List NamedHandler) (d : DraftText) (before rest : List NamedHandler) → HasThem d → d.timers ≡ handler_names before → before ++ rest ≡ all → length all ≤ 8 → are_names (handler_names all) ≡ true
      → AllByRecursion (IsRightHandler objects) rest → AreTimersOf d (map (declared_handler objects) rest)
  timers_are all d before [] has before_names e few right_names are = tt
  timers_are all d before (handler ∷ rest) has before_names e few right_names are = (
    subst (λ (l : List (List ℕ)). length l < 8) (sym before_names) (room_for (λ (it : NamedHandler). it.name) before rest all handler e few),
    subst (λ (l : List (List ℕ)). IsNew l handler.name) (sym before_names) (new_named (λ (it : NamedHandler). it.name) before rest all handler e right_names),
    handler_is d handler has are.0,
    timers_are all (with_timer d (declared_handler objects handler)) (before ++ handler ∷ []) rest has
        (ap (λ (l : List (List ℕ)). l ++ handler.name ∷ []) before_names ∙ sym (map_both (λ (it : NamedHandler). it.name) before (handler ∷ []))) (append_assoc before (handler ∷ []) rest ∙ e) few right_names are.1,
  )

with_interrupts_is : (objects : List NamedObject) (d : DraftText) (rest : List NamedHandler) → with_interrupts d (map (declared_handler objects) rest)
    ≡ record d { interrupts = d.interrupts ++ handler_names rest; interrupt_handlers = d.interrupt_handlers ++ map (handler_meant objects) rest }
with_interrupts_is objects d [] = λ k. record d { interrupts = sym (append-nil d.interrupts) k; interrupt_handlers = sym (append-nil d.interrupt_handlers) k }
with_interrupts_is objects d (handler ∷ rest) =
    with_interrupts_is objects (with_interrupt d (declared_handler objects handler)) rest
    ∙ (λ k. record d { interrupts = append_assoc d.interrupts (handler.name ∷ []) (handler_names rest) k; interrupt_handlers = append_assoc d.interrupt_handlers (handler_meant objects handler ∷ []) (map (handler_meant objects) rest) k })

with_timers_is : (objects : List NamedObject) (d : DraftText) (rest : List NamedHandler) → with_timers d (map (declared_handler objects) rest)
    ≡ record d { timers = d.timers ++ handler_names rest; timer_handlers = d.timer_handlers ++ map (handler_meant objects) rest }
with_timers_is objects d [] = λ k. record d { timers = sym (append-nil d.timers) k; timer_handlers = sym (append-nil d.timer_handlers) k }
with_timers_is objects d (handler ∷ rest) =
    with_timers_is objects (with_timer d (declared_handler objects handler)) rest
    ∙ (λ k. record d { timers = append_assoc d.timers (handler.name ∷ []) (handler_names rest) k; timer_handlers = append_assoc d.timer_handlers (handler_meant objects handler ∷ []) (map (handler_meant objects) rest) k })

handlers_same : (objects : List NamedObject) (first : List ℕ) (rest : List NamedHandler) → handlers_lines first (map (declared_handler objects) rest) ≡ map (written.handler_line first) rest
handlers_same objects first [] = refl
handlers_same objects first (handler ∷ rest) = ap (λ (l : List (List (List ℕ))). written.handler_line first handler ∷ l) (handlers_same objects first rest)

-- ---- the whole

-- what the reader has after the declarations
abbrev pub draft_meant : NamedDeck → DraftText
draft_meant deck = record {
  nodes = deck.nodes;
  positions = deck.positions;
  profile = deck.profile;
  is_tally = false;
  tasks = task_names deck.tasks;
  priorities = map (λ task. task.priority) deck.tasks;
  objects = object_names deck.objects;
  drafts = map whole deck.objects;
  interrupts = handler_names deck.interrupts;
  interrupt_handlers = map (handler_meant deck.objects) deck.interrupts;
  timers = handler_names deck.timers;
  timer_handlers = map (handler_meant deck.objects) deck.timers;
}

abbrev pub declarations : NamedDeck → ObjectsText
declarations deck = record {
  nodes = deck.nodes;
  positions = deck.positions;
  profile = deck.profile;
  tasks = task_names deck.tasks;
  priorities = map (λ task. task.priority) deck.tasks;
  objects = map declared_object deck.objects;
  interrupts = map (declared_handler deck.objects) deck.interrupts;
  timers = map (declared_handler deck.objects) deck.timers;
}

-- after the objects, and after the interrupts
abbrev with_them : NamedDeck → DraftText
with_them deck = record (tasks_draft (declarations deck)) { objects = object_names deck.objects; drafts = map whole deck.objects }

abbrev and_interrupts : NamedDeck → DraftText
and_interrupts deck = record (with_them deck) { interrupts = handler_names deck.interrupts; interrupt_handlers = map (handler_meant deck.objects) deck.interrupts }

objects_made : (deck : NamedDeck) → with_objects (tasks_draft (declarations deck)) (map declared_object deck.objects) ≡ with_them deck
objects_made deck = with_objects_is (tasks_draft (declarations deck)) deck.objects

interrupts_made : (deck : NamedDeck) → with_interrupts (with_objects (tasks_draft (declarations deck)) (map declared_object deck.objects)) (map (declared_handler deck.objects) deck.interrupts) ≡ and_interrupts deck
interrupts_made deck =
    ap (λ (d : DraftText). with_interrupts d (map (declared_handler deck.objects) deck.interrupts)) (objects_made deck) ∙ with_interrupts_is deck.objects (with_them deck) deck.interrupts

pub draft_made : (deck : NamedDeck) → objects_draft (declarations deck) ≡ draft_meant deck
draft_made deck =
    ap (λ (d : DraftText). with_timers d (map (declared_handler deck.objects) deck.timers)) (interrupts_made deck) ∙ with_timers_is deck.objects (and_interrupts deck) deck.timers

some_there : {X : Type 0} (xs : List X) (name : X → List ℕ) → 1 ≤ length xs → is_empty (map name xs) ≡ false
some_there [] name some = absurd (omega (arith, some))
some_there (x ∷ xs) name some = not_zero (length (map name xs))
  where
    not_zero : (n : ℕ) → (suc n == 0) ≡ false
    not_zero n = grind (arith, nat_tests)

pub declarations_are : (deck : NamedDeck) → IsRight deck → IsObjectsText (declarations deck)
declarations_are deck right = record {
  nodes = right.nodes;
  positions = right.positions;
  tasks = tasks_are deck.tasks [] deck.tasks refl right.task_count.1 right.tasks_named right.tasks;
  objects = objects_are (written.profile_of deck) deck.objects (tasks_draft (declarations deck)) [] deck.objects refl refl refl right.object_count.1 right.objects_named right.objects;
  interrupts = subst (λ (d : DraftText). AreInterruptsOf d (map (declared_handler deck.objects) deck.interrupts)) (sym (objects_made deck))
      (interrupts_are (written.profile_of deck) deck.objects right.objects right.objects_named deck.interrupts (with_them deck) [] deck.interrupts (refl, refl) refl refl right.few_interrupts right.interrupts_named right.interrupts);
  timers = subst (λ (d : DraftText). AreTimersOf d (map (declared_handler deck.objects) deck.timers)) (sym (interrupts_made deck))
      (timers_are (written.profile_of deck) deck.objects right.objects right.objects_named deck.timers (and_interrupts deck) [] deck.timers (refl, refl) refl refl right.few_timers right.timers_named right.timers);
  some_task = ap (λ (d : DraftText). is_empty d.tasks) (draft_made deck) ∙ some_there deck.tasks (λ task. task.name) right.task_count.0;
  some_object = ap (λ (d : DraftText). is_empty d.objects) (draft_made deck) ∙ some_there deck.objects (λ object. object.name) right.object_count.0;
}

pub positions_same : (positions : Option ℕ) → positions_words positions ≡ written.positions_lines positions
positions_same None = refl
positions_same (Some positions) = refl

profile_same : (profile : Option Profile) → profile_words profile ≡ written.profile_lines profile
profile_same None = refl
profile_same (Some Ravenscar) = refl
profile_same (Some Jorvik) = refl

pub lines_same : (deck : NamedDeck) → IsRight deck → declared_lines (declarations deck) ≡ written.declaration_lines deck
lines_same deck right = λ k.
    (codes "nodes" ∷ decimal deck.nodes ∷ [])
    ∷ (positions_same deck.positions k
    ++ (profile_same deck.profile k
    ++ (tasks_same deck.tasks k
    ++ (objects_same (written.profile_of deck) deck.objects right.objects k
    ++ (handlers_same deck.objects (codes "interrupt") deck.interrupts k
    ++ (handlers_same deck.objects (codes "timer") deck.timers k ++ (codes "script" ∷ []) ∷ []))))))

protected_all : (objects : List NamedObject) → map protected_of (map whole objects) ≡ map object_meant objects
protected_all [] = refl
protected_all (object ∷ rest) = ap (λ (l : List ProtectedText). object_meant object ∷ l) (protected_all rest)

-- and that is what they mean
pub declared_is : (deck : NamedDeck) → declared_of (draft_meant deck) ≡ declared_meant deck
declared_is deck = λ k. record (declared_meant deck) { program = Objects (written.profile_of deck) (protected_all deck.objects k) }
