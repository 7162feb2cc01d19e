-- The program in memory of a deck that means what is said.
use Rattle.std.proofs.Common.{◌≡◌, ℕ, suc, ◌+◌, ◌∷◌, [], List, map, Option, Some, None, arith, refl, sym, ap, subst, ◌∙◌}
use Rattle.std.specs.Prelude.{slice_get, option_map, nat_le}
use Rattle.std.specs.Arc.{arc_value}
use Rattle.std.specs.List.{AllZip}
use Rattle.std.proofs.lemmas.Option.{slice_get-map}
use Rattle.rp_deck.specs.indexmap.specs.IndexMap.{values}
use Rattle.rp_deck_declarations.specs.rp_body.specs.Store.{Store}
use Rattle.rp_object.specs.rp_entry.specs.Operations.{of_index}
use Rattle.rp_object.specs.rp_entry.specs.Protected.{Protected}
use Rattle.rp_object.specs.rp_entry.specs.declared.operations.Entry.{Entry}
use Rattle.rp_object.specs.Program.{operations_of, is_some_and, is_within_ceiling}
use Rattle.rp_object.specs.State.{first_object}
use Rattle.rp_object.specs.declared.program.Declarations.{Declarations}
use Rattle.rp_object.specs.declared.program.Handler.{Handler}
use Rattle.rp_object.specs.declared.program.ObjectDeclaration.{ObjectDeclaration}
use Rattle.rp_object.specs.declared.program.Program.{Program}
use Rattle.rp_object.specs.declared.program.TimingEvent.{TimingEvent}
use Rattle.rp_deck.specs.DeckViews.{deck_text}
use Rattle.rp_deck.specs.Meaning.{DeckText}
use Rattle.rp_deck.specs.declared.deck.Deck.{Deck}
use Rattle.rp_deck_bodies.specs.BodyViews.{body_text}
use Rattle.rp_deck_declarations.specs.rp_deck_objects.specs.ObjectViews.{ProtectedText, protected_text, function_text, entry_text}
use Rattle.rp_deck_declarations.specs.rp_deck_objects.specs.Objects.{EntryText}
use Rattle.rp_deck_declarations.specs.DeclaredTexts.{ProgramText}
use Rattle.rp_deck_declarations.specs.DeclaredTexts as texts
use Rattle.rp_deck_declarations.specs.DeclaredViews.{program_text}
use Rattle.rp_deck_declarations.specs.Programs.{Declares, DeclaresAll}
use Rattle.rp_deck_declarations.specs.declared.deck_program.DeckProgram.{DeckProgram}
use Rattle.rp_words.specs.Tables.{key_names}
use Rattle.rp_deck_laws.specs.Readings.{IsDeckOfObjects}
use Rattle.rp_deck_laws.specs.Named.{NamedEntry, NamedObject, NamedTask, NamedDeck, functions, procedures, entries, int_names, bool_names}
use Rattle.rp_deck_laws.specs.NamedTexts.{profile_of}
use Rattle.rp_deck_laws.specs.NamedMeanings.{result_meant, body_meant, entry_meant, object_meant, handler_meant, deck_meant}
use Rattle.rp_deck_laws.specs.NamedPrograms.{Does, IsFunctionOf, IsEntryOf, IsObjectOf, IsProgramOf}
use Rattle.rp_deck_laws.proofs.EffectLemmas.{does_it, returns_it}

-- two lists that are seen alike, place by place
zipped : {A B C : Type 0} (f : A → C) (g : B → C) (R : A → B → Type 0) → ((a : A) (b : B) → f a ≡ g b → R a b) → (xs : List A) (ys : List B) → map f xs ≡ map g ys → AllZip R xs ys
zipped f g R each [] [] e = tt
zipped f g R each [] (y ∷ ys) e = absurd cc
zipped f g R each (x ∷ xs) [] e = absurd cc
zipped f g R each (x ∷ xs) (y ∷ ys) e =
    let first : f x ≡ g y = cc in
    let rest : map f xs ≡ map g ys = cc in
    (each x y first, zipped f g R each xs ys rest)

twice : {A B C : Type 0} (f : A → B) (g : B → C) (xs : List A) → map g (map f xs) ≡ map (λ x. g (f x)) xs
twice f g [] = refl
twice {A} {B} {C} f g (x ∷ xs) = ap (λ (l : List C). g (f x) ∷ l) (twice f g xs)

-- ---- an object

module _ (object : NamedObject) (declared : ObjectDeclaration) (same : object_meant object ≡ protected_text declared) where
  entry_is : (entry : NamedEntry) (it : Entry) → entry_meant (int_names object.parts) (bool_names object.parts) entry ≡ entry_text it → IsEntryOf (int_names object.parts) (bool_names object.parts) entry it
  entry_is entry it e = record {
    barrier = ap (λ (t : EntryText). t.barrier) (sym e);
    longest = ap (λ (t : EntryText). t.longest) (sym e);
    body = does_it (int_names object.parts) (bool_names object.parts) entry.body it.body.items (ap (λ (t : EntryText). t.body) e);
  }

  object_is : IsObjectOf object declared
  object_is = record {
    ceiling = ap (λ (t : ProtectedText). t.ceiling) (sym same);
    functions = zipped (λ it. result_meant (int_names object.parts) (bool_names object.parts) it.result) function_text (IsFunctionOf (int_names object.parts) (bool_names object.parts))
        (λ it f e. returns_it (int_names object.parts) (bool_names object.parts) it.result f e) (functions object.parts) (operations_of declared).functions.items (ap (λ (t : ProtectedText). t.functions) same);
    procedures = zipped (λ it. body_meant (int_names object.parts) (bool_names object.parts) it.body) (λ body. body_text body.items) (λ it body. Does (int_names object.parts) (bool_names object.parts) it.body body.items)
        (λ it body e. does_it (int_names object.parts) (bool_names object.parts) it.body body.items e) (procedures object.parts) (operations_of declared).procedures.items (ap (λ (t : ProtectedText). t.procedures) same);
    entries = zipped (entry_meant (int_names object.parts) (bool_names object.parts)) entry_text (IsEntryOf (int_names object.parts) (bool_names object.parts))
        entry_is (entries object.parts) (operations_of declared).entries.items (ap (λ (t : ProtectedText). t.entries) same);
  }

-- ---- a program

numbered : {X : Type 0} (xs : List X) (k : ℕ) → of_index xs (k + 1) ≡ slice_get xs k
numbered xs k = let one : k + 1 ≡ suc k = omega arith in ap (of_index xs) one

by_ceiling : (priority : ℕ) (o : Option ObjectDeclaration) → is_some_and (λ (declared : ObjectDeclaration). nat_le priority declared.ceiling) o ≡ is_some_and (nat_le priority) (option_map (λ (declared : ObjectDeclaration). declared.ceiling) o)
by_ceiling priority None = refl
by_ceiling priority (Some declared) = refl

stores_of : (declared : List ObjectDeclaration) → map (λ (object : Protected). object.state.store) (map first_object declared) ≡ map (λ (t : ProtectedText). t.store) (map protected_text declared)
stores_of [] = refl
stores_of (d ∷ rest) = ap (λ (l : List Store). d.components ∷ l) (stores_of rest)

module _ (deck : Deck) (program : Program) (named : NamedDeck) (is : IsDeckOfObjects deck program) (same : deck_text deck ≡ deck_meant named) where
  abbrev declared : Declarations
  declared = arc_value program.declarations

  texts_same : texts.Objects declared.profile (map protected_text declared.objects.items) ≡ texts.Objects (profile_of named) (map object_meant named.objects)
  texts_same = ap program_text (sym is.objects) ∙ ap (λ (t : DeckText). t.declared.program) same

  objects_same : map object_meant named.objects ≡ map protected_text declared.objects.items
  objects_same = let e = texts_same in cc

  kept : Declares (map (λ task. task.priority) (values deck.tasks)) (values deck.interrupts) (values deck.timers) (key_names deck.timers) declared
  kept = subst (λ (p : DeckProgram). DeclaresAll (map (λ task. task.priority) (values deck.tasks)) (values deck.interrupts) (values deck.timers) (key_names deck.timers) p) is.objects is.right.kept

  priorities_same : declared.priorities.items ≡ map (λ (task : NamedTask). task.priority) named.tasks
  priorities_same = kept.has_priorities ∙ ap (λ (t : DeckText). t.declared.priorities) same

  interrupts_same : declared.interrupts.items ≡ map (handler_meant named.objects) named.interrupts
  interrupts_same = kept.has_interrupts ∙ ap (λ (t : DeckText). t.declared.interrupt_handlers) same

  timers_same : map (λ (timer : TimingEvent). timer.handler) declared.timers.items ≡ map (handler_meant named.objects) named.timers
  timers_same = kept.has_timers ∙ ap (λ (t : DeckText). t.declared.timer_handlers) same

  ceilings_same : map (λ (it : ObjectDeclaration). it.ceiling) declared.objects.items ≡ map (λ (it : NamedObject). it.ceiling) named.objects
  ceilings_same = sym (twice protected_text (λ (t : ProtectedText). t.ceiling) declared.objects.items) ∙ ap (map (λ (t : ProtectedText). t.ceiling)) (sym objects_same) ∙ twice object_meant (λ (t : ProtectedText). t.ceiling) named.objects

  within_is : (k j : ℕ) (task : NamedTask) (object : NamedObject) → slice_get named.tasks k ≡ Some task → slice_get named.objects j ≡ Some object → is_within_ceiling declared (k + 1) (j + 1) ≡ nat_le task.priority object.ceiling
  within_is k j task object at_task at_object =
      let priority : of_index declared.priorities.items (k + 1) ≡ Some task.priority =
      numbered declared.priorities.items k ∙ ap (λ (l : List ℕ). slice_get l k) priorities_same ∙ slice_get-map (λ (it : NamedTask). it.priority) named.tasks k ∙ ap (option_map (λ (it : NamedTask). it.priority)) at_task in
      let ceiling : option_map (λ (it : ObjectDeclaration). it.ceiling) (of_index declared.objects.items (j + 1)) ≡ Some object.ceiling =
      ap (option_map (λ (it : ObjectDeclaration). it.ceiling)) (numbered declared.objects.items j) ∙ sym (slice_get-map (λ (it : ObjectDeclaration). it.ceiling) declared.objects.items j)
      ∙ ap (λ (l : List ℕ). slice_get l j) ceilings_same ∙ slice_get-map (λ (it : NamedObject). it.ceiling) named.objects j ∙ ap (option_map (λ (it : NamedObject). it.ceiling)) at_object in
      ap (λ (o : Option ℕ). is_some_and (λ p. is_some_and (λ (it : ObjectDeclaration). nat_le p it.ceiling) (of_index declared.objects.items (j + 1))) o) priority
      ∙ by_ceiling task.priority (of_index declared.objects.items (j + 1)) ∙ ap (is_some_and (nat_le task.priority)) ceiling

  pub program_is : IsProgramOf named declared
  program_is = record {
    profile = let e = texts_same in cc;
    priorities = priorities_same;
    objects = zipped object_meant protected_text IsObjectOf object_is named.objects declared.objects.items objects_same;
    start = stores_of declared.objects.items ∙ ap (map (λ (t : ProtectedText). t.store)) (sym objects_same) ∙ twice object_meant (λ (t : ProtectedText). t.store) named.objects;
    within = within_is;
    interrupts = λ k handler at.
        numbered declared.interrupts.items k ∙ ap (λ (l : List Handler). slice_get l k) interrupts_same ∙ slice_get-map (handler_meant named.objects) named.interrupts k ∙ ap (option_map (handler_meant named.objects)) at;
    timers = λ k handler at.
        ap (option_map (λ (timer : TimingEvent). timer.handler)) (numbered declared.timers.items k) ∙ sym (slice_get-map (λ (timer : TimingEvent). timer.handler) declared.timers.items k)
        ∙ ap (λ (l : List Handler). slice_get l k) timers_same ∙ slice_get-map (handler_meant named.objects) named.timers k ∙ ap (option_map (handler_meant named.objects)) at;
  }
