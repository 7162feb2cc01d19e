-- The text of a script's line: one way to write each command, which reading gives back.
use Rattle.std.specs.Prelude.{ℕ, zero, ◌≡◌, ◌<◌, ◌≤◌, ◌+◌, ◌-◌, ◌^◌, ℤ, pos, FitsSigned, Bool, true}
use Rattle.std.specs.Prelude.{false, nat_eq, not, ◌&&◌, IsTrue, List, [], ◌∷◌, ◌++◌, codes, length}
use Rattle.std.specs.Prelude.{map, slice_get, slice_index_or, Some, None, ◌⊎◌, if◌then◌else◌}
use Rattle.std.specs.Prelude.{IfSome}
use Rattle.std.specs.Fmt.{decimal, signed_decimal}
use Rattle.std.specs.Int.{w64}
use Rattle.std.specs.List.{list_all}
use Rattle.rp_deck.specs.rp_base.specs.declared.action.Operation.{Operation}
use Rattle.rp_deck.specs.rp_base.specs.declared.action.Operation.TheVariants as operations
use Rattle.rp_deck_declarations.specs.rp_object.specs.declared.program.Handler.{Handler}
use Rattle.rp_deck.specs.rp_model.specs.Events.{Event, Step, Submit, Again, Makes, Cut, Stop}
use Rattle.rp_deck.specs.rp_model.specs.Events.{Restart, Deliver}
use Rattle.rp_deck.specs.rp_model.specs.Events.{Lead, LeadRange, Interrupt, Tick, Report, Ask}
use Rattle.rp_words.specs.Lines.{LineText}
use Rattle.rp_deck.specs.Script.{IsUpTo, IsMessage}
use Rattle.rp_deck_declarations.specs.rp_deck_objects.specs.ObjectViews.{OperationsText}
use Rattle.rp_deck_declarations.specs.ScriptNames.{DeclaredNames}
use Rattle.rp_deck.specs.ScriptLines.{LineCommand, CommandText, Take, Lose, Drain, Show}
use Rattle.rp_words.specs.Tables.{is_declared}
use Rattle.rp_words.specs.Words.{is_name}

-- ---- words

-- a space, and a word, for each
abbrev pub spaced : List (List ℕ) → List ℕ
spaced [] = []
spaced (word ∷ words) = 32 ∷ (word ++ spaced words)

-- a line of these words
abbrev pub line_of : ℕ → List (List ℕ) → LineText
line_of number [] = record { number = number; first = []; rest = [] }
line_of number (first ∷ words) = record { number = number; first = first; rest = spaced words }

-- the name of this number
abbrev pub name_numbered : List (List ℕ) → ℕ → List ℕ
name_numbered names number = slice_index_or names (number - 1) []

abbrev pub same_operation : Operation → Operation → Bool
same_operation (operations.Function a) (operations.Function b) = nat_eq a b
same_operation (operations.Procedure a) (operations.Procedure b) = nat_eq a b
same_operation (operations.Entry a) (operations.Entry b) = nat_eq a b
same_operation _ _ = false

-- the name of an operation: that of the first place where it is
abbrev pub operation_name_in : List (List ℕ) → List Operation → Operation → List ℕ
operation_name_in [] declared operation = []
operation_name_in names [] operation = []
operation_name_in (name ∷ names) (first ∷ rest) operation =
    if same_operation first operation then name else operation_name_in names rest operation

-- what an object of this number has
abbrev pub operations_numbered : DeclaredNames → ℕ → OperationsText
operations_numbered d object =
    slice_index_or d.operations (object - 1) (record { names = []; operations = [] })

abbrev pub operation_name : DeclaredNames → ℕ → Operation → List ℕ
operation_name d object operation =
    operation_name_in (operations_numbered d object).names (operations_numbered d object).operations
    operation

-- ---- lines

abbrev pub step_words : DeclaredNames → Step → List (List ℕ)
step_words d (Deliver message) = codes "deliver" ∷ decimal message ∷ []
step_words d (Lead node None) = codes "lead" ∷ decimal node ∷ []
step_words d (Lead node (Some position)) = codes "lead" ∷ decimal node ∷ decimal position ∷ []
step_words d (LeadRange node first count) =
    codes "range" ∷ decimal node ∷ decimal first ∷ decimal count ∷ []
step_words d (Interrupt node source occurrence) =
    codes "irq" ∷ decimal node ∷ name_numbered d.interrupts source ∷ decimal occurrence ∷ []
step_words d (Tick node now) = codes "tick" ∷ decimal node ∷ decimal now ∷ []
step_words d (Report node first) = []
step_words d (Ask node to) = []

-- an argument 0 is not written
abbrev pub argument_words : ℤ → List (List ℕ)
argument_words (pos zero) = []
argument_words arg = signed_decimal arg ∷ []

abbrev pub submit_words : DeclaredNames → ℕ → ℕ → ℕ → Operation → ℤ → List (List ℕ)
submit_words d task node object (operations.SetTimer timer) arg =
    codes "arm" ∷ name_numbered d.tasks task ∷ decimal node ∷ name_numbered d.timers timer
    ∷ signed_decimal arg ∷ []
submit_words d task node object (operations.CancelTimer timer) arg =
    codes "disarm" ∷ name_numbered d.tasks task ∷ decimal node ∷ name_numbered d.timers timer ∷ []
submit_words d task node object operation arg =
    codes "call" ∷ name_numbered d.tasks task ∷ decimal node
    ∷ (name_numbered d.objects object ++ 46 ∷ operation_name d object operation)
    ∷ argument_words arg

abbrev pub event_words : DeclaredNames → Event → List (List ℕ)
event_words d (Submit task node object operation arg) =
    submit_words d task node object operation arg
event_words d (Again task node) = codes "again" ∷ name_numbered d.tasks task ∷ decimal node ∷ []
event_words d (Makes step) = step_words d step
event_words d (Cut step kept) = codes "cut" ∷ decimal kept ∷ step_words d step
event_words d (Stop node) = codes "stop" ∷ decimal node ∷ []
event_words d (Restart node) = codes "restart" ∷ decimal node ∷ []

abbrev pub command_words : DeclaredNames → CommandText → List (List ℕ)
command_words d (Take event) = event_words d event
command_words d (Lose first last) = codes "lose" ∷ decimal first ∷ decimal last ∷ []
command_words d Drain = codes "drain" ∷ []
command_words d Show = codes "show" ∷ []

-- ---- texts

-- the words of a line, with a space between them
abbrev pub joined : List (List ℕ) → List ℕ
joined [] = []
joined (first ∷ words) = first ++ spaced words

-- lines of these words, each ended by a line feed
abbrev pub text_of_lines : List (List (List ℕ)) → List ℕ
text_of_lines [] = []
text_of_lines (words ∷ lines) = joined words ++ 10 ∷ text_of_lines lines

-- the same as lines, where the first has this number
abbrev pub numbered_lines : ℕ → List (List (List ℕ)) → List LineText
numbered_lines number [] = []
numbered_lines number (words ∷ lines) = line_of number words ∷ numbered_lines (number + 1) lines

-- the text of a script
abbrev pub script_text : DeclaredNames → List CommandText → List ℕ
script_text d commands = text_of_lines (map (command_words d) commands)

-- commands, a line each, where the first has this number
abbrev pub numbered_commands : ℕ → List CommandText → List LineCommand
numbered_commands number [] = []
numbered_commands number (command ∷ commands) =
    record { number = number; command = command } ∷ numbered_commands (number + 1) commands

-- ---- which commands a script may hold, where these are declared

abbrev pub is_distinct : List (List ℕ) → Bool
is_distinct [] = true
is_distinct (name ∷ names) = not (is_declared name names) && is_distinct names

-- names, no two of them the same
abbrev pub are_names : List (List ℕ) → Bool
are_names names = list_all is_name names && is_distinct names

-- as many operations as names
pub record AreOperations (own : OperationsText) : Type 0 where
  pub names : IsTrue (are_names own.names)
  pub even : length own.names ≡ length own.operations

pub record AreDeclared (d : DeclaredNames) : Type 0 where
  pub nodes : d.nodes ≤ 7
  pub tasks : IsTrue (are_names d.tasks)
  pub objects : IsTrue (are_names d.objects)
  pub operations : (k : ℕ) (own : OperationsText) → slice_get d.operations k ≡ Some own
      → AreOperations own
  pub interrupts : IsTrue (are_names d.interrupts)
  pub timers : IsTrue (are_names d.timers)

-- the operation is one of these
abbrev pub IsOneOf : List Operation → Operation → Type 0
IsOneOf [] operation = ⊥
IsOneOf (first ∷ rest) operation = (first ≡ operation) ⊎ IsOneOf rest operation

-- the object of this number has the operation
pub record HasOperation (d : DeclaredNames) (object : ℕ) (operation : Operation) : Type 0 where
  pub own : OperationsText
  pub object_is : IsUpTo (length d.objects) object
  pub own_is : slice_get d.operations (object - 1) ≡ Some own
  pub operation_is : IsOneOf own.operations operation

-- the timing event of this number has a handler of the object
pub record IsTimerOf (d : DeclaredNames) (object timer : ℕ) : Type 0 where
  pub handler : Handler
  pub timer_is : IsUpTo (length d.timers) timer
  pub handler_is : slice_get d.timer_handlers (timer - 1) ≡ Some handler
  pub object_is : handler.object ≡ object

abbrev pub IsSubmitOf : DeclaredNames → ℕ → Operation → ℤ → Type 0
IsSubmitOf d object (operations.SetTimer timer) arg = IsTimerOf d object timer × FitsSigned w64 arg
IsSubmitOf d object (operations.CancelTimer timer) arg = IsTimerOf d object timer × (arg ≡ pos 0)
IsSubmitOf d object operation arg = HasOperation d object operation × FitsSigned w64 arg

abbrev pub IsStepOf : DeclaredNames → Step → Type 0
IsStepOf d (Deliver message) = IsMessage message
IsStepOf d (Lead node position) = IsUpTo d.nodes node × IfSome position (IsUpTo 65535)
IsStepOf d (LeadRange node first count) = IsUpTo d.nodes node × IsUpTo 65535 first × IsUpTo 64 count
IsStepOf d (Interrupt node source occurrence) =
    IsUpTo d.nodes node × IsUpTo (length d.interrupts) source × IsUpTo (2 ^ 32 - 1) occurrence
IsStepOf d (Tick node now) = IsUpTo d.nodes node × (now < 2 ^ 32)
IsStepOf d (Report node first) = ⊥
IsStepOf d (Ask node to) = ⊥

-- a step that `cut` may name
abbrev pub MayBeCut : Step → Type 0
MayBeCut (Deliver message) = Unit {0}
MayBeCut (Lead node position) = Unit {0}
MayBeCut (LeadRange node first count) = Unit {0}
MayBeCut _ = ⊥

abbrev pub IsEventOf : DeclaredNames → Event → Type 0
IsEventOf d (Submit task node object operation arg) =
    IsUpTo (length d.tasks) task × IsUpTo d.nodes node × IsSubmitOf d object operation arg
IsEventOf d (Again task node) = IsUpTo (length d.tasks) task × IsUpTo d.nodes node
IsEventOf d (Makes step) = IsStepOf d step
IsEventOf d (Cut step kept) = IsStepOf d step × MayBeCut step × (kept < 2 ^ 63)
IsEventOf d (Stop node) = IsUpTo d.nodes node
IsEventOf d (Restart node) = IsUpTo d.nodes node

-- a command that a script may hold
abbrev pub IsCommandOf : DeclaredNames → CommandText → Type 0
IsCommandOf d (Take event) = IsEventOf d event
IsCommandOf d (Lose first last) = IsMessage first × IsMessage last
IsCommandOf d Drain = Unit {0}
IsCommandOf d Show = Unit {0}
