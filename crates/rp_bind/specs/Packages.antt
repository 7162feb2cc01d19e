-- The text of packages, by the names and the numbers of a deck.
use Rattle.std.specs.Prelude.{ℕ, ◌+◌, ◌-◌, Bool, true, false, if◌then◌else◌, List, [], ◌∷◌, ◌++◌}
use Rattle.std.specs.Prelude.{codes, flat_map, Option, Some, None, slice_get, String, string_bytes}
use Rattle.std.specs.Arc.{arc_value}
use Rattle.std.specs.List.{concat}
use Rattle.rp_deck_declarations.specs.indexmap.specs.IndexMap.{IndexMap, keys}
use Rattle.rp_deck_declarations.specs.rp_entry.specs.declared.operations.Function.{Function}
use Rattle.rp_deck_declarations.specs.rp_entry.specs.declared.operations.Function.TheVariants as functions
use Rattle.rp_deck_declarations.specs.rp_object.specs.Program.{operations_of}
use Rattle.rp_deck_declarations.specs.rp_object.specs.declared.program.ObjectDeclaration.{ObjectDeclaration}
use Rattle.rp_deck_declarations.specs.rp_deck_objects.specs.declared.names.OperationName.{OperationName}
use Rattle.rp_deck_declarations.specs.rp_deck_objects.specs.declared.names.OperationName.TheVariants as names
use Rattle.rp_deck_declarations.specs.declared.declarations.Declared.{Declared}
use Rattle.rp_deck_declarations.specs.declared.deck_program.DeckProgram.{DeckProgram}
use Rattle.rp_deck_declarations.specs.declared.deck_program.DeckProgram.TheVariants as programs
use Rattle.rp_bind.specs.declared.lines.Kind.{Kind}
use Rattle.rp_bind.specs.declared.lines.Kind.TheVariants.{Value, Truth, Procedure, Entry}
use Rattle.rp_bind.specs.declared.lines.Language.{Language}
use Rattle.rp_bind.specs.declared.lines.Language.TheVariants.{Ada, Local, C}
use Rattle.rp_deck_declarations.specs.declared.deck_program.Task.{Task}
use Rattle.rp_deck_declarations.specs.DeclaredViews.{timer_handlers}
use Rattle.rp_deck_declarations.specs.rp_object.specs.declared.program.Handler.{Handler}
use Rattle.rp_bind_local.specs.Bodies.{local_text}
use Rattle.rp_bind_local.specs.Numbered.{numbered}
use Rattle.rp_bind.specs.Arguments.{component_if, range_text}
use Rattle.rp_bind.specs.Texts.{object_head, object_end, operation_lines, task_constant, timer_lines}

-- what is before the tasks, between them and the objects, and after the objects
abbrev pub head_of_ada : List ℕ
head_of_ada = concat (
    codes "--  The protected objects of a deck: do not edit. Written by `rp_console bind\n" ∷
    codes "--  --ada`. The body for replicated objects is ada/deck_objects.adb, and that\n" ∷
    codes "--  for objects on one machine is what `bind --ada --local` prints.\n" ∷
    codes "--  Call_Of_An_Object makes a call and waits for its reply: it returns its\n" ∷
    codes "--  value, or raises what the operation raised.\n\n" ∷
    codes "with Interfaces;\nwith RP_Calls;\n\ngeneric\n" ∷
    codes "   with function Call_Of_An_Object\n" ∷
    codes "     (Object, Kind, Index : Interfaces.Unsigned_8;\n" ∷
    codes "      Argument            : Interfaces.Integer_64)\n" ∷
    codes "      return Interfaces.Integer_64;\n" ∷
    codes "   with procedure Note_An_Interrupt\n" ∷
    codes "     (Source     : Interfaces.Unsigned_8;\n" ∷
    codes "      Occurrence : Interfaces.Unsigned_32) is null;\n" ∷
    codes "   with procedure Note_A_Tick_Of_Time\n" ∷
    codes "     (Now : Interfaces.Unsigned_32) is null;\n" ∷
    codes "package Deck_Objects is\n\n" ∷
    codes "   subtype Number_Of_This_Deck is Interfaces.Unsigned_8;\n" ∷
    codes "   subtype Value_Of_This_Deck is Interfaces.Integer_64;\n" ∷
    codes "   subtype Count_Of_This_Deck is Interfaces.Unsigned_32;\n\n" ∷
    codes "   function Call_Of_This_Deck\n" ∷
    codes "     (Object, Kind, Index : Number_Of_This_Deck;\n" ∷
    codes "      Argument            : Value_Of_This_Deck)\n" ∷
    codes "      return Value_Of_This_Deck;\n\n" ∷
    codes "   procedure Interrupt_Of_This_Deck\n" ∷
    codes "     (Source     : Number_Of_This_Deck;\n" ∷
    codes "      Occurrence : Count_Of_This_Deck);\n\n" ∷
    codes "   procedure Tick_Of_This_Deck (Now : Count_Of_This_Deck);\n\n" ∷
    codes "   package Calls_Of_This_Deck is new RP_Calls (Call_Of_This_Deck);\n\n" ∷
    codes "   package Tasks_Of_This_Deck is\n" ∷
    [])

abbrev pub head_of_c : List ℕ
head_of_c = concat (
    codes "/* The protected objects of a deck: do not edit. Written by `rp_console bind --c`. */\n" ∷
    codes "#ifndef RP_DECK_OBJECTS_H\n#define RP_DECK_OBJECTS_H\n\n" ∷
    codes "#include \"rp_calls.h\"\n\n/* The numbers of the tasks. */\nenum {\n" ∷
    [])

abbrev pub head : Language → List ℕ
head Ada = head_of_ada
head Local = head_of_ada
head C = head_of_c

abbrev pub between : Language → List ℕ
between Ada = codes "   end Tasks_Of_This_Deck;\n"
between Local = codes "   end Tasks_Of_This_Deck;\n"
between C = codes "};\n"

abbrev pub end : Language → List ℕ
end Ada = codes "\nend Deck_Objects;\n"
end Local = codes "\nend Deck_Objects;\n"
end C = codes "\n#endif\n"

module _ {Z : Type 0} where
  -- the tasks, numbered from 1 in declared order
  abbrev pub tasks_text : Language → List (String Z) → List ℕ
  tasks_text language tasks =
      numbered (λ number name. task_constant language (string_bytes name) number) 1 tasks

  -- what is before the objects
  abbrev pub text_before_objects : Language → List (String Z) → List ℕ
  text_before_objects language tasks = head language ++ (tasks_text language tasks ++ between language)

-- the object of a number from 1, and its functions; an object of a tally has no declaration
abbrev pub declaration_at : DeckProgram → ℕ → Option ObjectDeclaration
declaration_at (programs.Tally count) number = None
declaration_at (programs.Objects program) number =
    slice_get (arc_value program.declarations).objects.items (number - 1)

abbrev pub functions_of : Option ObjectDeclaration → List Function
functions_of None = []
functions_of (Some object) = (operations_of object).functions.items

-- whether a function returns a Boolean
abbrev pub is_truth : Option Function → Bool
is_truth (Some (functions.Truth condition)) = true
is_truth _ = false

-- what an operation of an object with these functions is, and its number among those of its kind
abbrev pub operation_kind : List Function → OperationName → Kind
operation_kind own (names.Function index) =
    if is_truth (slice_get own (index.number - 1)) then Truth else Value
operation_kind own (names.Procedure index) = Procedure
operation_kind own (names.Entry index) = Entry

abbrev pub index_of : OperationName → ℕ
index_of (names.Function index) = index.number
index_of (names.Procedure index) = index.number
index_of (names.Entry index) = index.number

-- an operation of an object, and the range of its argument
abbrev pub operation_text : Language → List ℕ → ℕ → Option ObjectDeclaration
    → List ℕ → OperationName → List ℕ
operation_text language owner object own name operation =
    operation_lines language owner object name (operation_kind (functions_of own) operation)
    (index_of operation)
    ++ range_text language name (component_if own operation)

module _ {Z : Type 0} where
  -- the operations of an object, in declared order
  abbrev pub operations_text : Language → List ℕ → ℕ → Option ObjectDeclaration
      → List (String Z × OperationName) → List ℕ
  operations_text language owner object own operations =
      flat_map (λ entry. operation_text language owner object own (string_bytes entry.0) entry.1)
      operations

  abbrev pub entries_of : {S : Type 0} → Option (IndexMap (String Z) OperationName S)
      → List (String Z × OperationName)
  entries_of None = []
  entries_of (Some operations) = operations.entries

-- an object by its number from 1 and its name
abbrev pub object_text : Language → Declared → ℕ → List ℕ → List ℕ
object_text language declared number name =
    object_head language name
    ++ (operations_text language name number (declaration_at declared.program number)
    (entries_of (slice_get declared.operations.items (number - 1)))
    ++ object_end language name)

-- the objects, numbered from 1 in declared order
abbrev pub objects_text : Language → Declared → List ℕ
objects_text language declared =
    numbered (λ number name. object_text language declared number (string_bytes name)) 1
    declared.objects.keys

-- the packages of Ada that are before those of the objects: the priorities of the tasks, the
-- ceilings of the objects, the numbers of the interrupts, and the timing events
abbrev pub ceiling_of : Option ObjectDeclaration → ℕ
ceiling_of None = 30
ceiling_of (Some object) = object.ceiling

abbrev pub ceiling_at : DeckProgram → ℕ → ℕ
ceiling_at (programs.Tally count) number = 30
ceiling_at (programs.Objects program) number =
    ceiling_of (slice_get (arc_value program.declarations).objects.items (number - 1))

abbrev pub owner_of : Option Handler → ℕ
owner_of None = 0
owner_of (Some handler) = handler.object

abbrev pub owner_at : DeckProgram → ℕ → ℕ
owner_at program number = owner_of (slice_get (timer_handlers program) (number - 1))

module _ {Z : Type 0} where
  abbrev pub priorities_text : List (String Z × Task) → List ℕ
  priorities_text tasks =
      flat_map (λ entry. task_constant Ada (string_bytes entry.0) entry.1.priority) tasks

  abbrev pub ceilings_text : DeckProgram → List (String Z) → List ℕ
  ceilings_text program names =
      numbered (λ number name. task_constant Ada (string_bytes name) (ceiling_at program number)) 1 names

  abbrev pub timers_text : DeckProgram → List (String Z) → List ℕ
  timers_text program names =
      numbered (λ number name. timer_lines (string_bytes name) (owner_at program number) number) 1 names

abbrev pub ada_constants_text : Declared → List ℕ
ada_constants_text declared =
    codes "\n   package Priorities_Of_Tasks is\n"
    ++ (priorities_text declared.tasks.entries
    ++ (codes "   end Priorities_Of_Tasks;\n\n   package Ceilings_Of_Objects is\n"
    ++ (ceilings_text declared.program declared.objects.keys
    ++ (codes "   end Ceilings_Of_Objects;\n\n   package Interrupts_Of_This_Deck is\n"
    ++ (tasks_text Ada (keys declared.interrupts)
    ++ (codes "   end Interrupts_Of_This_Deck;\n\n   package Timing_Events_Of_This_Deck is\n"
    ++ (timers_text declared.program (keys declared.timers)
    ++ codes "   end Timing_Events_Of_This_Deck;\n")))))))

abbrev pub constants_text : Language → Declared → List ℕ
constants_text Ada declared = ada_constants_text declared
constants_text Local declared = ada_constants_text declared
constants_text C declared = []

-- the packages of what a deck declares
abbrev pub declarations_text : Language → Declared → List ℕ
declarations_text language declared =
    text_before_objects language (keys declared.tasks)
    ++ (constants_text language declared ++ (objects_text language declared ++ end language))

-- these, or the body of their package on one machine
abbrev pub packages_text : Language → Declared → List ℕ
packages_text Ada declared = declarations_text Ada declared
packages_text Local declared = local_text declared
packages_text C declared = declarations_text C declared
