-- What a deck means: each name is replaced by its place among the names of its kind.
use Rattle.std.specs.Prelude.{ℕ, ◌+◌, ℤ, pos, List, [], ◌∷◌, map, length, unwrap_or, if◌then◌else◌}
use Rattle.std.specs.Str.{bytes_eq}
use Rattle.rp_deck.specs.rp_base.specs.declared.action.Operation.{Operation}
use Rattle.rp_deck.specs.rp_base.specs.declared.action.Operation.TheVariants as operations
use Rattle.rp_deck_declarations.specs.rp_body.specs.Store.{Store, by_place}
use Rattle.rp_deck_declarations.specs.rp_body.specs.declared.components.Ranged.{Ranged}
use Rattle.rp_object.specs.declared.program.Handler.{Handler}
use Rattle.rp_deck.specs.rp_model.specs.Events.{Event, Step}
use Rattle.rp_deck.specs.rp_model.specs.Events as events
use Rattle.rp_deck_bodies.specs.Expressions.{ExprText, CondText}
use Rattle.rp_deck_bodies.specs.Expressions.{ExprText as expr_texts}
use Rattle.rp_deck_bodies.specs.Expressions.{CondText as cond_texts}
use Rattle.rp_deck_bodies.specs.Bodies.{BodyText}
use Rattle.rp_deck_bodies.specs.Bodies.{BodyText as body_texts}
use Rattle.rp_deck_declarations.specs.rp_deck_objects.specs.Objects.{FunctionText, EntryText}
use Rattle.rp_deck_declarations.specs.rp_deck_objects.specs.Objects.{FunctionText as function_texts}
use Rattle.rp_deck_declarations.specs.rp_deck_objects.specs.ObjectViews.{ProtectedText}
use Rattle.rp_deck_declarations.specs.DeclaredTexts.{DeclaredText, Objects}
use Rattle.rp_deck.specs.Meaning.{DeckText}
use Rattle.rp_deck.specs.ScriptLines.{CommandText}
use Rattle.rp_deck.specs.ScriptLines.{CommandText as command_texts}
use Rattle.rp_deck_laws.specs.ScriptText.{numbered_commands}
use Rattle.rp_deck_laws.specs.Names.{is_among, place_in, number_in}
use Rattle.rp_deck_laws.specs.Named.{NamedExpr, NamedCond, NamedBody, NamedInt, NamedResult}
use Rattle.rp_deck_laws.specs.Named.{Value, Truth, NamedEntry, NamedPart, NamedObject}
use Rattle.rp_deck_laws.specs.Named.{NamedHandler, NamedStep, NamedCommand, NamedDeck, ints}
use Rattle.rp_deck_laws.specs.Named.{bools, functions, procedures, entries, int_names}
use Rattle.rp_deck_laws.specs.Named.{bool_names, function_names, procedure_names, entry_names}
use Rattle.rp_deck_laws.specs.Named.{task_names, object_names, handler_names}
use Rattle.rp_deck_laws.specs.Named.{NamedExpr as exprs}
use Rattle.rp_deck_laws.specs.Named.{NamedCond as conds}
use Rattle.rp_deck_laws.specs.Named.{NamedBody as bodies}
use Rattle.rp_deck_laws.specs.Named.{NamedStep as steps}
use Rattle.rp_deck_laws.specs.Named.{NamedCommand as commands}
use Rattle.rp_deck_laws.specs.NamedTexts.{profile_of, declaration_lines}

-- ---- an object, whose components of each kind have these names

module _ (whole truths : List (List ℕ)) where
  abbrev pub expr_meant : NamedExpr → ExprText
  expr_meant (exprs.Number number) = expr_texts.Number number
  expr_meant exprs.Arg = expr_texts.Arg
  expr_meant exprs.Out = expr_texts.Out
  expr_meant (exprs.Int name) = expr_texts.Int (place_in name whole)
  expr_meant (exprs.Add first second) = expr_texts.Add (expr_meant first) (expr_meant second)
  expr_meant (exprs.Sub first second) = expr_texts.Sub (expr_meant first) (expr_meant second)

  abbrev pub cond_meant : NamedCond → CondText
  cond_meant (conds.Constant truth) = cond_texts.Constant truth
  cond_meant (conds.Named name) = cond_texts.Named (place_in name truths)
  cond_meant (conds.Less first second) = cond_texts.Less (expr_meant first) (expr_meant second)
  cond_meant (conds.LessOrEqual first second) =
      cond_texts.LessOrEqual (expr_meant first) (expr_meant second)
  cond_meant (conds.Equal first second) = cond_texts.Equal (expr_meant first) (expr_meant second)
  cond_meant (conds.Not negated) = cond_texts.Not (cond_meant negated)
  cond_meant (conds.And first second) = cond_texts.And (cond_meant first) (cond_meant second)
  cond_meant (conds.Or first second) = cond_texts.Or (cond_meant first) (cond_meant second)

  abbrev pub body_meant : NamedBody → BodyText
  body_meant bodies.Empty = body_texts.Empty
  body_meant (bodies.Set before name value) =
      body_texts.Set (body_meant before) (place_in name whole) (expr_meant value)
  body_meant (bodies.Put before name value) =
      body_texts.Put (body_meant before) (place_in name truths) (cond_meant value)
  body_meant (bodies.Return before value) = body_texts.Out (body_meant before) (expr_meant value)
  body_meant (bodies.If before condition first second) =
      body_texts.If (body_meant before) (cond_meant condition) (body_meant first)
      (body_meant second)

  abbrev pub result_meant : NamedResult → FunctionText
  result_meant (Value value) = function_texts.Value (expr_meant value)
  result_meant (Truth truth) = function_texts.Truth (cond_meant truth)

  abbrev pub entry_meant : NamedEntry → EntryText
  entry_meant entry = record {
    barrier = place_in entry.barrier truths;
    longest = entry.longest;
    body = body_meant entry.body;
  }

-- a whole number at first
abbrev pub ranged : NamedInt → Ranged
ranged int = record { low = int.low; high = int.high; value = int.value }

-- the components at first
abbrev pub store_meant : List NamedPart → Store
store_meant parts = record {
  ints = by_place (map ranged (ints parts));
  bools = by_place (map (λ bool. bool.value) (bools parts));
}

abbrev pub object_meant : NamedObject → ProtectedText
object_meant object =
    let whole = int_names object.parts in
    let truths = bool_names object.parts in
    record {
      name = object.name;
      ceiling = object.ceiling;
      int_names = whole;
      bool_names = truths;
      store = store_meant object.parts;
      functions = map (λ it. result_meant whole truths it.result) (functions object.parts);
      procedures = map (λ it. body_meant whole truths it.body) (procedures object.parts);
      entry_names = entry_names object.parts;
      entries = map (entry_meant whole truths) (entries object.parts);
    }

-- ---- handlers

-- the parts of the object of this name
abbrev pub parts_named : List NamedObject → List ℕ → List NamedPart
parts_named [] name = []
parts_named (object ∷ rest) name =
    if bytes_eq name object.name then object.parts else parts_named rest name

abbrev pub handler_meant : List NamedObject → NamedHandler → Handler
handler_meant objects handler = record {
  object = number_in handler.object (object_names objects);
  procedure =
      number_in handler.procedure (procedure_names (parts_named objects handler.object));
}

-- the object of the handler of the timing event of this name
abbrev pub object_handling : List NamedHandler → List ℕ → List ℕ
object_handling [] name = []
object_handling (handler ∷ rest) name =
    if bytes_eq name handler.name then handler.object else object_handling rest name

-- ---- the script

-- what a call by this name asks for: the operation of its kind with its number among its kind
abbrev pub operation_meant : List NamedPart → List ℕ → Operation
operation_meant parts name =
    if is_among name (function_names parts)
    then operations.Function (number_in name (function_names parts))
    else if is_among name (procedure_names parts)
    then operations.Procedure (number_in name (procedure_names parts))
    else operations.Entry (number_in name (entry_names parts))

abbrev pub step_meant : NamedDeck → NamedStep → Step
step_meant deck (steps.Deliver message) = events.Step.Deliver message
step_meant deck (steps.Lead node position) = events.Step.Lead node position
step_meant deck (steps.LeadRange node first count) = events.Step.LeadRange node first count
step_meant deck (steps.Interrupt node name occurrence) =
    events.Step.Interrupt node (number_in name (handler_names deck.interrupts)) occurrence
step_meant deck (steps.Tick node now) = events.Step.Tick node now

abbrev pub task_meant : NamedDeck → List ℕ → ℕ
task_meant deck task = number_in task (task_names deck.tasks)

-- what a task asks for of an object
abbrev pub call_meant : NamedDeck → List ℕ → ℕ → List ℕ → Operation → ℤ → Event
call_meant deck task node object operation arg =
    events.Event.Submit (task_meant deck task) node (number_in object (object_names deck.objects))
    operation arg

abbrev pub command_meant : NamedDeck → NamedCommand → CommandText
command_meant deck (commands.Call task node object operation arg) =
    command_texts.Take
    (call_meant deck task node object
    (operation_meant (parts_named deck.objects object) operation) arg)
command_meant deck (commands.Arm task node timer time) =
    command_texts.Take
    (call_meant deck task node (object_handling deck.timers timer)
    (operations.SetTimer (number_in timer (handler_names deck.timers))) time)
command_meant deck (commands.Disarm task node timer) =
    command_texts.Take
    (call_meant deck task node (object_handling deck.timers timer)
    (operations.CancelTimer (number_in timer (handler_names deck.timers))) (pos 0))
command_meant deck (commands.Again task node) =
    command_texts.Take (events.Event.Again (task_meant deck task) node)
command_meant deck (commands.Makes step) =
    command_texts.Take (events.Event.Makes (step_meant deck step))
command_meant deck (commands.Cut kept step) =
    command_texts.Take (events.Event.Cut (step_meant deck step) kept)
command_meant deck (commands.Stop node) = command_texts.Take (events.Event.Stop node)
command_meant deck (commands.Restart node) = command_texts.Take (events.Event.Restart node)
command_meant deck (commands.Lose first last) = command_texts.Lose first last
command_meant deck commands.Drain = command_texts.Drain
command_meant deck commands.Show = command_texts.Show

-- ---- the deck

abbrev pub declared_meant : NamedDeck → DeclaredText
declared_meant deck = record {
  nodes = deck.nodes;
  max_positions = unwrap_or deck.positions 1000;
  program = Objects (profile_of deck) (map object_meant deck.objects);
  tasks = task_names deck.tasks;
  priorities = map (λ task. task.priority) deck.tasks;
  objects = object_names deck.objects;
  interrupts = handler_names deck.interrupts;
  interrupt_handlers = map (handler_meant deck.objects) deck.interrupts;
  timers = handler_names deck.timers;
  timer_handlers = map (handler_meant deck.objects) deck.timers;
}

-- the script's lines follow those that declare
abbrev pub deck_meant : NamedDeck → DeckText
deck_meant deck = record {
  declared = declared_meant deck;
  script = numbered_commands (1 + length (declaration_lines deck))
      (map (command_meant deck) deck.script);
}
