-- The body of the package of what a deck declares, whose objects are protected objects.
use Rattle.std.specs.Prelude.{ℕ, ◌-◌, List, [], ◌∷◌, ◌++◌, codes, decimal, Option, Some, None, String}
use Rattle.std.specs.Prelude.{string_bytes, slice_get}
use Rattle.std.specs.Arc.{arc_value}
use Rattle.std.specs.List.{concat}
use Rattle.rp_deck_declarations.specs.indexmap.specs.IndexMap.{IndexMap}
use Rattle.rp_deck_declarations.specs.rp_deck_objects.specs.declared.names.OperationName.{OperationName}
use Rattle.rp_deck_declarations.specs.rp_object.specs.declared.program.Declarations.{Declarations}
use Rattle.rp_deck_declarations.specs.rp_object.specs.declared.program.Handler.{Handler}
use Rattle.rp_deck_declarations.specs.rp_object.specs.declared.program.ObjectDeclaration.{ObjectDeclaration}
use Rattle.rp_deck_declarations.specs.rp_object.specs.declared.program.TimingEvent.{TimingEvent}
use Rattle.rp_deck_declarations.specs.declared.declarations.Declared.{Declared}
use Rattle.rp_deck_declarations.specs.declared.deck_program.DeckProgram.{DeckProgram}
use Rattle.rp_deck_declarations.specs.declared.deck_program.DeckProgram.TheVariants as programs
use Rattle.rp_bind_local.specs.Calls.{calls_text, sum_call_text}
use Rattle.rp_bind_local.specs.Numbered.{numbered}
use Rattle.rp_bind_local.specs.Objects.{object_text, sum_text}

-- what is before the objects
abbrev pub before_objects : List ℕ
before_objects = concat (
    codes "--  The protected objects of a deck on one machine: do not edit. Written by\n" ∷
    codes "--  `rp_console bind --ada --local`. Its specification is what `rp_console\n" ∷
    codes "--  bind --ada` prints of the same deck.\n\n" ∷
    codes "with RP_Protected_Objects; use RP_Protected_Objects;\n\n" ∷
    codes "package body Deck_Objects is\n\n" ∷
    codes "   pragma Unsuppress (All_Checks);\n" ∷
    codes "   pragma Warnings (Off, \"*is not referenced*\");\n" ∷
    codes "   pragma Warnings (Off, \"*could be declared constant*\");\n" ∷
    codes "   pragma Warnings (Off, \"*Constraint_Error will be raised*\");\n" ∷
    codes "   pragma Warnings (Off, \"*not in range*\");\n" ∷
    codes "   pragma Warnings (Off, \"*condition is always*\");\n" ∷
    codes "   pragma Warnings (Off, \"*condition can only be*\");\n" ∷
    codes "   pragma Warnings (Off, \"*has no effect*\");\n" ∷
    codes "   pragma Warnings (Off, \"*useless assignment*\");\n" ∷
    codes "   pragma Warnings (Off, Call_Of_An_Object);\n" ∷
    codes "   pragma Warnings (Off, Note_An_Interrupt);\n" ∷
    codes "   pragma Warnings (Off, Note_A_Tick_Of_Time);\n" ∷
    [])

-- what is between the objects and the handlers of the timing events
abbrev pub before_timers : List ℕ
before_timers = concat (
    codes "\n   package Events_Of_This_Deck is new Timers_And_Interrupts\n" ∷
    codes "     (Call_Of_An_Object      => Call_Of_This_Deck,\n" ∷
    codes "      Handlers_Of_Timers     =>\n" ∷
    codes "        (" ∷
    [])

-- what is between these and those of the interrupts
abbrev pub before_interrupts : List ℕ
before_interrupts = concat (
    codes "others => No_Handler_At_All),\n" ∷
    codes "      Handlers_Of_Interrupts =>\n" ∷
    codes "        (" ∷
    [])

-- what is between these and the calls
abbrev pub before_calls : List ℕ
before_calls = concat (
    codes "others => No_Handler_At_All));\n\n" ∷
    codes "   function Call_Of_This_Deck\n" ∷
    codes "     (Object, Kind, Index : Number_Of_This_Deck;\n" ∷
    codes "      Argument            : Value_Of_This_Deck)\n" ∷
    codes "      return Value_Of_This_Deck\n" ∷
    codes "   is\n" ∷
    codes "      Result : Value_Of_This_Deck := 0;\n" ∷
    codes "   begin\n" ∷
    codes "      case Numbers_Of_One_Call (Object, Kind, Index) is\n" ∷
    [])

-- what is after them
abbrev pub after_calls : List ℕ
after_calls = concat (
    codes "         when others =>\n" ∷
    codes "            Events_Of_This_Deck.Call_A_Timing_Event\n" ∷
    codes "              (Kind, Index, Argument, Result);\n" ∷
    codes "      end case;\n" ∷
    codes "      return Result;\n" ∷
    codes "   end Call_Of_This_Deck;\n\n" ∷
    codes "   procedure Interrupt_Of_This_Deck\n" ∷
    codes "     (Source     : Number_Of_This_Deck;\n" ∷
    codes "      Occurrence : Count_Of_This_Deck)\n" ∷
    codes "   is\n" ∷
    codes "   begin\n" ∷
    codes "      Events_Of_This_Deck.Interrupt_Once (Source, Occurrence);\n" ∷
    codes "   end Interrupt_Of_This_Deck;\n\n" ∷
    codes "   procedure Tick_Of_This_Deck (Now : Count_Of_This_Deck) is\n" ∷
    codes "   begin\n" ∷
    codes "      Events_Of_This_Deck.Tick_Once (Now);\n" ∷
    codes "   end Tick_Of_This_Deck;\n\n" ∷
    codes "end Deck_Objects;\n" ∷
    [])

-- an object of this name, and its calls, if it is declared
abbrev pub object_if : {Z S : Type 0} → List ℕ → Option (IndexMap (String Z) OperationName S)
    → Option ObjectDeclaration → List ℕ
object_if name (Some operations) (Some object) = object_text name operations.entries object
object_if name _ _ = []

abbrev pub calls_if : {Z S : Type 0} → ℕ → List ℕ → Option (IndexMap (String Z) OperationName S)
    → Option ObjectDeclaration → List ℕ
calls_if number name (Some operations) (Some object) = calls_text object name number operations.entries
calls_if number name _ _ = []

-- the object of a number from 1, and its calls
abbrev pub object_text_in : DeckProgram → Declared → ℕ → List ℕ → List ℕ
object_text_in (programs.Tally count) declared number name = sum_text name
object_text_in (programs.Objects program) declared number name =
    object_if name (slice_get declared.operations.items (number - 1))
    (slice_get (arc_value program.declarations).objects.items (number - 1))

abbrev pub calls_text_in : DeckProgram → Declared → ℕ → List ℕ → List ℕ
calls_text_in (programs.Tally count) declared number name = sum_call_text number name
calls_text_in (programs.Objects program) declared number name =
    calls_if number name (slice_get declared.operations.items (number - 1))
    (slice_get (arc_value program.declarations).objects.items (number - 1))

abbrev pub object_text_at : Declared → ℕ → List ℕ → List ℕ
object_text_at declared = object_text_in declared.program declared

abbrev pub calls_text_at : Declared → ℕ → List ℕ → List ℕ
calls_text_at declared = calls_text_in declared.program declared

-- the objects, and their calls, numbered from 1 in declared order
abbrev pub objects_text : Declared → List ℕ
objects_text declared =
    numbered (λ number name. object_text_at declared number (string_bytes name)) 1
    declared.objects.keys

abbrev pub all_calls_text : Declared → List ℕ
all_calls_text declared =
    numbered (λ number name. calls_text_at declared number (string_bytes name)) 1
    declared.objects.keys

-- the handler of a timing event or of an interrupt of this number: its object and its procedure
abbrev pub handler_text : ℕ → Handler → List ℕ
handler_text number handler =
    decimal number ++ (codes " => (" ++ (decimal handler.object ++ (codes ", "
    ++ (decimal handler.procedure ++ codes "),\n         "))))

abbrev pub events_text : List TimingEvent → List ℕ
events_text timers = numbered (λ number timer. handler_text number timer.handler) 1 timers

abbrev pub handlers_text : List Handler → List ℕ
handlers_text handlers = numbered handler_text 1 handlers

abbrev pub timers_text : DeckProgram → List ℕ
timers_text (programs.Tally count) = []
timers_text (programs.Objects program) = events_text (arc_value program.declarations).timers.items

abbrev pub interrupts_text : DeckProgram → List ℕ
interrupts_text (programs.Tally count) = []
interrupts_text (programs.Objects program) =
    handlers_text (arc_value program.declarations).interrupts.items

-- the body of the package of what a deck declares
abbrev pub local_text : Declared → List ℕ
local_text declared =
    before_objects ++ (objects_text declared ++ (before_timers ++ (timers_text declared.program
    ++ (before_interrupts ++ (interrupts_text declared.program ++ (before_calls
    ++ (all_calls_text declared ++ after_calls)))))))
