-- What is declared, as the text says it.
use Rattle.std.specs.Prelude.{ℕ, ◌≡◌, List, [], map, replicate, unwrap_or, String}
use Rattle.std.specs.Arc.{arc_value}
use Rattle.rp_words.specs.indexmap.specs.IndexMap.{IndexMap, values}
use Rattle.rp_words.specs.indexmap.specs.IndexSet.{IndexSet}
use Rattle.rp_object.specs.declared.program.Handler.{Handler}
use Rattle.rp_object.specs.declared.program.Profile.{Profile}
use Rattle.rp_words.specs.Tables.{key_names, set_names}
use Rattle.rp_deck_objects.specs.declared.names.OperationName.{OperationName}
use Rattle.rp_deck_objects.specs.Objects.{ObjectText}
use Rattle.rp_deck_objects.specs.ObjectViews.{protected_of, protected_text, object_operations}
use Rattle.rp_deck_objects.specs.ObjectViews.{own_operations}
use Rattle.rp_deck_declarations.specs.declared.declarations.Declared.{Declared}
use Rattle.rp_deck_declarations.specs.declared.deck_program.DeckProgram.{DeckProgram}
use Rattle.rp_deck_declarations.specs.declared.deck_program.DeckProgram.TheVariants as programs
use Rattle.rp_deck_declarations.specs.declared.deck_program.Task.{Task}
use Rattle.rp_deck_declarations.specs.DeclaredTexts.{ProgramText, Tally, Objects, DeclaredText}
use Rattle.rp_deck_declarations.specs.DraftViews.{priority_of}
use Rattle.rp_deck_declarations.specs.ScriptNames.{DeclaredNames, tally_operations}

-- the handlers of a program's timing events; a tally has none
abbrev pub timer_handlers : DeckProgram → List Handler
timer_handlers (programs.Tally program) = []
timer_handlers (programs.Objects program) =
    map (λ timer. timer.handler) (arc_value program.declarations).timers.items

abbrev pub names_of : Declared → DeclaredNames
names_of declared = record {
  nodes = declared.nodes;
  tasks = key_names declared.tasks;
  objects = set_names declared.objects;
  operations = map own_operations declared.operations.items;
  interrupts = key_names declared.interrupts;
  timers = key_names declared.timers;
  timer_handlers = timer_handlers declared.program;
}

abbrev pub program_text : DeckProgram → ProgramText
program_text (programs.Tally program) = Tally program
program_text (programs.Objects program) =
    Objects (arc_value program.declarations).profile
    (map protected_text (arc_value program.declarations).objects.items)

-- these nodes, positions, program, tasks, objects, interrupts and timing events
abbrev pub declared_as : {Y S : Type 0} → ℕ → ℕ → DeckProgram → IndexMap (String Y) Task S
    → IndexSet (String Y) S → IndexMap (String Y) Handler S → IndexMap (String Y) Handler S
    → DeclaredText
declared_as nodes max_positions program tasks objects interrupts timers = record {
  nodes = nodes;
  max_positions = max_positions;
  program = program_text program;
  tasks = key_names tasks;
  priorities = map priority_of (values tasks);
  objects = set_names objects;
  interrupts = key_names interrupts;
  interrupt_handlers = values interrupts;
  timers = key_names timers;
  timer_handlers = values timers;
}

abbrev pub declared_text : Declared → DeclaredText
declared_text d =
    declared_as d.nodes (unwrap_or d.positions 1000) d.program d.tasks d.objects d.interrupts
    d.timers

-- the program is a tally of n objects, with these names
pub record IsTally {Y S : Type 0} (count : ℕ) (program : DeckProgram)
    (operations : List (IndexMap (String Y) OperationName S)) : Type 0 where
  pub program_is : program_text program ≡ Tally count
  pub no_timers : timer_handlers program ≡ []
  pub names : map own_operations operations ≡ replicate count tally_operations

-- the program has what is declared of these objects, with these names, and the timing events have
-- these handlers
pub record IsMadeOf {Y S : Type 0} (profile : Profile) (objects : List ObjectText)
    (timers : List Handler)
    (program : DeckProgram) (operations : List (IndexMap (String Y) OperationName S)) : Type 0 where
  pub program_is : program_text program ≡ Objects profile (map protected_of objects)
  pub timers_are : timer_handlers program ≡ timers
  pub names : map own_operations operations ≡ map object_operations objects
