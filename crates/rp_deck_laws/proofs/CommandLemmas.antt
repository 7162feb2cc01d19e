-- The lines of a right script are right for the reader, and have the words that they are written as.
use Rattle.std.proofs.Common.{◌≡◌, ℕ, zero, suc, ◌+◌, ◌-◌, List, [], ◌∷◌, ◌++◌, Bool, true, false, length, map, Some, None, arith, inl, inr, ap, refl, sym, subst, ◌∙◌}
use Rattle.std.specs.Prelude.{ℤ, codes, slice_get, option_map, FitsSigned}
use Rattle.std.specs.Fmt.{decimal, signed_decimal}
use Rattle.std.specs.Int.{w64}
use Rattle.std.specs.List.{AllByRecursion}
use Rattle.std.specs.Str.{bytes_eq}
use Rattle.std.proofs.lemmas.Bool.{cases_Bool, cond-true, cond-false}
use Rattle.std.proofs.lemmas.Option.{slice_get-map, get_or_from_slice_get}
use Rattle.rp_deck.specs.rp_base.specs.declared.action.Operation.{Operation}
use Rattle.rp_object.specs.declared.program.Profile.{Profile}
use Rattle.rp_deck_declarations.specs.ScriptNames.{DeclaredNames, declared_names}
use Rattle.rp_deck_declarations.specs.rp_deck_objects.specs.ObjectViews.{OperationsText, object_operations}
use Rattle.rp_deck.specs.Script.{IsUpTo}
use Rattle.rp_deck_laws.specs.ScriptText.{argument_words, name_numbered, operation_name_in, operations_numbered, operation_name, submit_words, AreOperations, AreDeclared, IsOneOf, HasOperation, IsTimerOf, IsSubmitOf, IsStepOf, IsCommandOf}
use Rattle.rp_deck_laws.specs.ScriptText as reader
use Rattle.rp_deck_laws.specs.Names.{IsAmong, place_in, number_in, is_among}
use Rattle.rp_deck_laws.specs.Named.{NamedPart, NamedObject, NamedHandler, NamedStep, NamedCommand, NamedDeck, function_names, procedure_names, operation_names, task_names, object_names, handler_names}
use Rattle.rp_deck_laws.specs.Named.{NamedStep as steps}
use Rattle.rp_deck_laws.specs.Named.{NamedCommand as commands}
use Rattle.rp_deck_laws.specs.NamedTexts as written
use Rattle.rp_deck_laws.specs.NamedMeanings.{parts_named, handler_meant, object_handling, operation_meant, step_meant, command_meant}
use Rattle.rp_deck_laws.specs.RightDecks.{IsRightObject, IsRightStep, MayBeCut, IsRightCommand, IsRight}
use Rattle.rp_deck_laws.proofs.NameLemmas.{among_rest, place_here, place_later, place_below, numbered_is}
use Rattle.rp_deck_laws.proofs.OperationLemmas.{chosen, operation_from, from_first, operation_is, even_operations}
use Rattle.rp_deck_laws.proofs.DeckLemmas.{whole, At, object_at, draft_meant}

-- ---- a call, whatever kind of operation it is of

call_words : (d : DeclaredNames) (task node object : ℕ) (a b : Bool) (f p e : ℕ) (arg : ℤ) → submit_words d task node object (chosen a b f p e) arg
    ≡ codes "call" ∷ name_numbered d.tasks task ∷ decimal node ∷ (name_numbered d.objects object ++ 46 ∷ operation_name d object (chosen a b f p e)) ∷ argument_words arg
call_words d task node object true b f p e arg = refl
call_words d task node object false true f p e arg = refl
call_words d task node object false false f p e arg = refl

is_submit : (d : DeclaredNames) (object : ℕ) (a b : Bool) (f p e : ℕ) (arg : ℤ) → HasOperation d object (chosen a b f p e) → FitsSigned w64 arg → IsSubmitOf d object (chosen a b f p e) arg
is_submit d object true b f p e arg call fits = (call, fits)
is_submit d object false true f p e arg call fits = (call, fits)
is_submit d object false false f p e arg call fits = (call, fits)

one_less : (n : ℕ) → n + 1 - 1 ≡ n
one_less n = omega arith

in_range : (name : List ℕ) (names : List (List ℕ)) → IsAmong name names → IsUpTo (length names) (number_in name names)
in_range name names among = (omega arith, omega (arith, place_below name names among))

-- ---- the timing event of a name

record TimerAt (timers : List NamedHandler) (name : List ℕ) : Type 0 where
  handler : NamedHandler
  there : slice_get timers (place_in name (handler_names timers)) ≡ Some handler
  object_is : object_handling timers name ≡ handler.object

timer_at : (timers : List NamedHandler) (name : List ℕ) → IsAmong name (handler_names timers) → TimerAt timers name
timer_at [] name among = absurd cc
timer_at (handler ∷ rest) name among = elim (cases_Bool (bytes_eq name handler.name)) [
  | inl hit ↦ record {
    handler = handler;
    there = ap (slice_get (handler ∷ rest)) (place_here name handler.name (handler_names rest) hit);
    object_is = cond-true (bytes_eq name handler.name) handler.object (object_handling rest name) hit;
  }
  | inr miss ↦
      let found = timer_at rest name (among_rest name handler.name (handler_names rest) miss among) in
      let next : place_in name (handler.name ∷ handler_names rest) ≡ suc (place_in name (handler_names rest)) = omega (arith, place_later name handler.name (handler_names rest) miss) in
      record {
        handler = found.handler;
        there = ap (slice_get (handler ∷ rest)) next ∙ found.there;
        object_is = cond-false (bytes_eq name handler.name) handler.object (object_handling rest name) miss ∙ found.object_is;
      }
]

-- ---- the names that the script may use

pub operations_are : (profile : Profile) (objects : List NamedObject) → AllByRecursion (IsRightObject profile) objects → (k : ℕ) (own : OperationsText) → slice_get (map object_operations (map whole objects)) k ≡ Some own → AreOperations own
operations_are profile [] right k own at = absurd cc
operations_are profile (object ∷ rest) right zero own at =
    let same : object_operations (whole object) ≡ own = cc in
    subst AreOperations same (record { names = right.0.operations_named; even = even_operations 0 0 0 object.parts })
operations_are profile (object ∷ rest) right (suc k) own at = operations_are profile rest right.1 k own at

pub names_are_declared : (deck : NamedDeck) → IsRight deck → AreDeclared (declared_names (draft_meant deck))
names_are_declared deck right = record {
  nodes = right.nodes.1;
  tasks = right.tasks_named;
  objects = right.objects_named;
  operations = operations_are (written.profile_of deck) deck.objects right.objects;
  interrupts = right.interrupts_named;
  timers = right.timers_named;
}

module _ (deck : NamedDeck) (right : IsRight deck) where
  abbrev names : DeclaredNames
  names = declared_names (draft_meant deck)

  at_object : (object : List ℕ) → IsAmong object (object_names deck.objects) → At (written.profile_of deck) deck.objects object
  at_object object among = object_at (written.profile_of deck) deck.objects object right.objects among

  own_there : (object : List ℕ) (among : IsAmong object (object_names deck.objects)) → slice_get names.operations (number_in object (object_names deck.objects) - 1) ≡ Some (object_operations (whole (at_object object among).object))
  own_there object among =
      let found = at_object object among in
      let place = place_in object (object_names deck.objects) in
      ap (slice_get names.operations) (one_less place) ∙ slice_get-map object_operations (map whole deck.objects) place
      ∙ ap (option_map object_operations) (slice_get-map whole deck.objects place ∙ ap (option_map whole) found.there)

  -- a call
  module _ (object operation : List ℕ) (among : IsAmong object (object_names deck.objects)) (has : IsAmong operation (operation_names (parts_named deck.objects object))) where
    abbrev parts_of : List NamedPart
    parts_of = (at_object object among).object.parts

    abbrev number : ℕ
    number = number_in object (object_names deck.objects)

    among_own : IsAmong operation (operation_names parts_of)
    among_own = subst (λ (l : List NamedPart). IsAmong operation (operation_names l)) (at_object object among).parts_are has

    called_same : operation_from 0 0 0 parts_of operation ≡ operation_meant (parts_named deck.objects object) operation
    called_same = from_first parts_of operation ∙ ap (λ (l : List NamedPart). operation_meant l operation) (sym (at_object object among).parts_are)

    named_same : operation_name names number (operation_from 0 0 0 parts_of operation) ≡ operation
    named_same =
        ap (λ (o : OperationsText). operation_name_in o.names o.operations (operation_from 0 0 0 parts_of operation))
        (get_or_from_slice_get names.operations (number - 1) (object_operations (whole (at_object object among).object)) (record { names = []; operations = [] }) (own_there object among))
        ∙ (operation_is parts_of operation (at_object object among).is.operations_named among_own).0

    is_call : HasOperation names number (operation_from 0 0 0 parts_of operation)
    is_call = record {
      own = object_operations (whole (at_object object among).object);
      object_is = in_range object (object_names deck.objects) among;
      own_is = own_there object among;
      operation_is = (operation_is parts_of operation (at_object object among).is.operations_named among_own).1;
    }

    submit_is : (arg : ℤ) → FitsSigned w64 arg → IsSubmitOf names number (operation_meant (parts_named deck.objects object) operation) arg
    submit_is arg fits =
        subst (λ (o : Operation). IsSubmitOf names number o arg) called_same
        (is_submit names number (is_among operation (function_names parts_of)) (is_among operation (procedure_names parts_of)) _ _ _ arg is_call fits)

    submit_same : (task : List ℕ) (node : ℕ) (arg : ℤ) → IsAmong task (task_names deck.tasks)
        → submit_words names (number_in task (task_names deck.tasks)) node number (operation_meant (parts_named deck.objects object) operation) arg
        ≡ codes "call" ∷ task ∷ decimal node ∷ written.dotted object operation ∷ argument_words arg
    submit_same task node arg is_task =
        ap (λ (o : Operation). submit_words names (number_in task (task_names deck.tasks)) node number o arg) (sym called_same)
        ∙ call_words names (number_in task (task_names deck.tasks)) node number (is_among operation (function_names parts_of)) (is_among operation (procedure_names parts_of)) _ _ _ arg
        ∙ (λ k. codes "call" ∷ numbered_is task (task_names deck.tasks) is_task k ∷ decimal node ∷ (numbered_is object (object_names deck.objects) among k ++ 46 ∷ named_same k) ∷ argument_words arg)

  -- a timing event
  is_timer : (timer : List ℕ) → IsAmong timer (handler_names deck.timers) → IsTimerOf names (number_in (object_handling deck.timers timer) (object_names deck.objects)) (number_in timer (handler_names deck.timers))
  is_timer timer among =
      let found = timer_at deck.timers timer among in
      let place = place_in timer (handler_names deck.timers) in
      record {
        handler = handler_meant deck.objects found.handler;
        timer_is = in_range timer (handler_names deck.timers) among;
        handler_is = ap (slice_get names.timer_handlers) (one_less place) ∙ slice_get-map (handler_meant deck.objects) deck.timers place ∙ ap (option_map (handler_meant deck.objects)) found.there;
        object_is = ap (λ (o : List ℕ). number_in o (object_names deck.objects)) (sym found.object_is);
      }

  step_is : (step : NamedStep) → IsRightStep deck step → IsStepOf names (step_meant deck step)
  step_is (steps.Deliver message) is = is
  step_is (steps.Lead node position) is = is
  step_is (steps.LeadRange node first count) is = is
  step_is (steps.Interrupt node name occurrence) is = (is.0, in_range name (handler_names deck.interrupts) is.1, is.2)
  step_is (steps.Tick node now) is = is

  cut_is : (step : NamedStep) → MayBeCut deck step → reader.MayBeCut (step_meant deck step)
  cut_is (steps.Deliver message) may = tt
  cut_is (steps.Lead node position) may = tt
  cut_is (steps.LeadRange node first count) may = tt
  cut_is (steps.Interrupt node name occurrence) may = absurd may
  cut_is (steps.Tick node now) may = absurd may

  step_same : (step : NamedStep) → IsRightStep deck step → reader.step_words names (step_meant deck step) ≡ written.step_words step
  step_same (steps.Deliver message) is = refl
  step_same (steps.Lead node None) is = refl
  step_same (steps.Lead node (Some position)) is = refl
  step_same (steps.LeadRange node first count) is = refl
  step_same (steps.Interrupt node name occurrence) is = ap (λ (w : List ℕ). codes "irq" ∷ decimal node ∷ w ∷ decimal occurrence ∷ []) (numbered_is name (handler_names deck.interrupts) is.1)
  step_same (steps.Tick node now) is = refl

  command_is : (command : NamedCommand) → IsRightCommand deck command → IsCommandOf names (command_meant deck command)
  command_is (commands.Call task node object operation arg) is = (in_range task (task_names deck.tasks) is.0, is.1, submit_is object operation is.2 is.3 arg is.4)
  command_is (commands.Arm task node timer time) is = (in_range task (task_names deck.tasks) is.0, is.1, (is_timer timer is.2, is.3))
  command_is (commands.Disarm task node timer) is = (in_range task (task_names deck.tasks) is.0, is.1, (is_timer timer is.2, refl))
  command_is (commands.Again task node) is = (in_range task (task_names deck.tasks) is.0, is.1)
  command_is (commands.Makes step) is = step_is step is
  command_is (commands.Cut kept step) is = (step_is step is.0, cut_is step is.1, is.2)
  command_is (commands.Stop node) is = is
  command_is (commands.Restart node) is = is
  command_is (commands.Lose first last) is = is
  command_is commands.Drain is = tt
  command_is commands.Show is = tt

  command_same : (command : NamedCommand) → IsRightCommand deck command → reader.command_words names (command_meant deck command) ≡ written.command_words command
  command_same (commands.Call task node object operation arg) is = submit_same object operation is.2 is.3 task node arg is.0
  command_same (commands.Arm task node timer time) is =
      λ k. codes "arm" ∷ numbered_is task (task_names deck.tasks) is.0 k ∷ decimal node ∷ numbered_is timer (handler_names deck.timers) is.2 k ∷ signed_decimal time ∷ []
  command_same (commands.Disarm task node timer) is =
      λ k. codes "disarm" ∷ numbered_is task (task_names deck.tasks) is.0 k ∷ decimal node ∷ numbered_is timer (handler_names deck.timers) is.2 k ∷ []
  command_same (commands.Again task node) is = ap (λ (w : List ℕ). codes "again" ∷ w ∷ decimal node ∷ []) (numbered_is task (task_names deck.tasks) is.0)
  command_same (commands.Makes step) is = step_same step is
  command_same (commands.Cut kept step) is = ap (λ (l : List (List ℕ)). codes "cut" ∷ decimal kept ∷ l) (step_same step is.0)
  command_same (commands.Stop node) is = refl
  command_same (commands.Restart node) is = refl
  command_same (commands.Lose first last) is = refl
  command_same commands.Drain is = refl
  command_same commands.Show is = refl

  pub commands_are : (script : List NamedCommand) → AllByRecursion (IsRightCommand deck) script → AllByRecursion (IsCommandOf names) (map (command_meant deck) script)
  commands_are [] are = tt
  commands_are (command ∷ rest) are = (command_is command are.0, commands_are rest are.1)

  pub commands_same : (script : List NamedCommand) → AllByRecursion (IsRightCommand deck) script → map (reader.command_words names) (map (command_meant deck) script) ≡ map written.command_words script
  commands_same [] are = refl
  commands_same (command ∷ rest) are = λ k. command_same command are.0 k ∷ commands_same rest are.1 k
