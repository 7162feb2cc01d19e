-- What an object has, and how the lines of one add to it.
use Rattle.std.specs.Prelude.{ℕ, ◌+◌, Bool, true, false, not, List, [], ◌∷◌, ◌++◌, codes, length}
use Rattle.std.specs.Prelude.{Option, Some, None, Result, Ok, Err, if◌then◌else◌}
use Rattle.std.specs.FinMap.{empty, insert, len}
use Rattle.std.specs.Str.{bytes_eq}
use Rattle.rp_object.specs.rp_base.specs.declared.action.Operation.{Operation}
use Rattle.rp_object.specs.rp_base.specs.declared.action.Operation.TheVariants as operations
use Rattle.rp_object.specs.rp_base.specs.declared.fault.DeckReason.{DeckReason}
use Rattle.rp_object.specs.rp_base.specs.declared.fault.DeckReason.TheVariants.{BadNumber, BadName}
use Rattle.rp_object.specs.rp_base.specs.declared.fault.DeckReason.TheVariants.{DuplicateName}
use Rattle.rp_object.specs.rp_base.specs.declared.fault.DeckReason.TheVariants.{UnknownWord}
use Rattle.rp_object.specs.rp_body.specs.Store.{Store, is_within}
use Rattle.rp_object.specs.rp_body.specs.declared.components.Ranged.{Ranged}
use Rattle.rp_object.specs.declared.program.Profile.{Profile}
use Rattle.rp_object.specs.declared.program.Profile.TheVariants.{Ravenscar, Jorvik}
use Rattle.rp_words.specs.Lines.{LineText}
use Rattle.rp_words.specs.Reading.{◌>>=◌, some_or, unless, room, word_at}
use Rattle.rp_words.specs.Reading.{end_at}
use Rattle.rp_words.specs.Reading.{name_at, new_name_at, integer_at, number_at}
use Rattle.rp_words.specs.Tables.{is_declared}
use Rattle.rp_words.specs.Words.{truth_named, is_at_end}
use Rattle.rp_deck_bodies.specs.declared.names.Component.{Component}
use Rattle.rp_deck_bodies.specs.declared.names.Component.TheVariants as components
use Rattle.rp_deck_bodies.specs.Bodies.{BodyText, OpenBodyText, begun_body, body_line}
use Rattle.rp_deck_bodies.specs.Expressions.{ExprText, CondText, expression_words, bool_of}
use Rattle.rp_deck_bodies.specs.Expressions.{expr_line, cond_line}
use Rattle.rp_deck_objects.specs.declared.objects.FunctionKind.{FunctionKind}
use Rattle.rp_deck_objects.specs.declared.objects.FunctionKind.TheVariants as functions
use Rattle.rp_deck_objects.specs.declared.objects.Head.{Head}
use Rattle.rp_deck_objects.specs.declared.objects.Head.TheVariants as heads
use Rattle.rp_deck_objects.specs.declared.objects.Part.{Part}
use Rattle.rp_deck_objects.specs.declared.objects.Part.TheVariants as parts

pub data FunctionText : Type 0 where
  Value : (value : ExprText) → FunctionText
  Truth : (truth : CondText) → FunctionText

-- an entry: the place of its barrier, how many calls wait at most, and its body
pub record EntryText : Type 0 where
  pub barrier : ℕ
  pub longest : ℕ
  pub body : BodyText

-- an operation whose body has not ended: its name, what it is, and the body
pub record OpenOperationText : Type 0 where
  pub name : List ℕ
  pub head : Head
  pub body : OpenBodyText

-- what an object has so far: its components, by name and by kind, with their first values; its
-- operations, by name and by kind; and the operation whose body has not ended
pub record ObjectText : Type 0 where
  pub name : List ℕ
  pub ceiling : ℕ
  pub component_names : List (List ℕ)
  pub components : List Component
  pub int_names : List (List ℕ)
  pub bool_names : List (List ℕ)
  pub store : Store
  pub operation_names : List (List ℕ)
  pub operations : List Operation
  pub functions : List FunctionText
  pub procedures : List BodyText
  pub entry_names : List (List ℕ)
  pub entries : List EntryText
  pub open_operation : Option OpenOperationText

-- an object that has nothing yet
abbrev pub empty_object : List ℕ → ℕ → ObjectText
empty_object name ceiling = record {
  name = name;
  ceiling = ceiling;
  component_names = [];
  components = [];
  int_names = [];
  bool_names = [];
  store = record { ints = empty; bools = empty };
  operation_names = [];
  operations = [];
  functions = [];
  procedures = [];
  entry_names = [];
  entries = [];
  open_operation = None;
}

-- a name for a component, which is not among these
unfoldable pub component_name_at : List (List ℕ) → List ℕ → Result (List ℕ × List ℕ) DeckReason
component_name_at names words = do
  name ← name_at words
  free ← unless BadName (is_declared name.0 expression_words)
  new ← unless DuplicateName (is_declared name.0 names)
  Ok name

-- `LOW HIGH INIT`
unfoldable pub ranged_at : List ℕ → Result (Ranged × List ℕ) DeckReason
ranged_at words = do
  low ← integer_at words
  high ← integer_at low.1
  value ← integer_at high.1
  in_range ← unless BadNumber (not (is_within low.0 high.0 value.0))
  Ok (record { low = low.0; high = high.0; value = value.0 }, value.1)

-- a whole number more
abbrev pub with_int : ObjectText → List ℕ → Ranged → ObjectText
with_int o name component = record o {
  component_names = o.component_names ++ name ∷ [];
  components = o.components ++ components.Int (len o.store.ints) ∷ [];
  int_names = o.int_names ++ name ∷ [];
  store = record o.store { ints = insert o.store.ints (len o.store.ints) component };
}

-- `int NAME LOW HIGH INIT`
unfoldable pub int_line : ObjectText → List ℕ → Result ObjectText DeckReason
int_line o words = do
  few ← room 8 (len o.store.ints)
  name ← component_name_at o.component_names words
  component ← ranged_at name.1
  e ← end_at component.1
  Ok (with_int o name.0 component.0)

-- a Boolean more
abbrev pub with_bool : ObjectText → List ℕ → Bool → ObjectText
with_bool o name value = record o {
  component_names = o.component_names ++ name ∷ [];
  components = o.components ++ components.Bool (len o.store.bools) ∷ [];
  bool_names = o.bool_names ++ name ∷ [];
  store = record o.store { bools = insert o.store.bools (len o.store.bools) value };
}

-- `bool NAME INIT`
unfoldable pub bool_line : ObjectText → List ℕ → Result ObjectText DeckReason
bool_line o words = do
  few ← room 8 (len o.store.bools)
  name ← component_name_at o.component_names words
  word ← word_at name.1
  value ← some_or UnknownWord (truth_named word.0)
  e ← end_at word.1
  Ok (with_bool o name.0 value)

-- the value or the truth of a function
abbrev pub function_of : ObjectText → Option FunctionKind → List ℕ → Result FunctionText DeckReason
function_of o None words = Err UnknownWord
function_of o (Some functions.Value) words = do
  value ← expr_line o.component_names o.components words
  Ok (Value value)
function_of o (Some functions.Truth) words = do
  truth ← cond_line o.component_names o.components words
  Ok (Truth truth)

abbrev pub function_named : List ℕ → Option FunctionKind
function_named word =
    if bytes_eq word (codes "value") then Some functions.Value
    else if bytes_eq word (codes "truth") then Some functions.Truth
    else None

-- a function more
abbrev pub with_function : ObjectText → List ℕ → FunctionText → ObjectText
with_function o name function = record o {
  operation_names = o.operation_names ++ name ∷ [];
  operations = o.operations ++ operations.Function (length o.functions + 1) ∷ [];
  functions = o.functions ++ function ∷ [];
}

-- `function NAME value EXPR` or `function NAME truth COND`
unfoldable pub function_line : ObjectText → List ℕ → Result ObjectText DeckReason
function_line o words = do
  few ← room 8 (length o.functions)
  name ← new_name_at o.operation_names words
  word ← word_at name.1
  function ← function_of o (function_named word.0) word.1
  Ok (with_function o name.0 function)

-- an operation whose body has no line yet
abbrev pub begun_operation : List ℕ → Head → OpenOperationText
begun_operation name head = record { name = name; head = head; body = begun_body }

-- no word more, and the body of an operation begins
unfoldable pub begun_line : ObjectText → List ℕ → Head → List ℕ → Result ObjectText DeckReason
begun_line o name head words = do
  e ← end_at words
  Ok (record o { open_operation = Some (begun_operation name head) })

-- `procedure NAME`, whose body begins
unfoldable pub procedure_line : ObjectText → List ℕ → Result ObjectText DeckReason
procedure_line o words = do
  few ← room 8 (length o.procedures)
  name ← new_name_at o.operation_names words
  begun_line o name.0 heads.Procedure name.1

-- how many entries an object has at most
abbrev pub most_entries : Profile → ℕ
most_entries Ravenscar = 1
most_entries Jorvik = 4

-- the longest queue, where the line says so
unfoldable pub queue_at : List ℕ → Result (ℕ × List ℕ) DeckReason
queue_at words = do
  word ← word_at words
  is_queue ← unless UnknownWord (not (bytes_eq word.0 (codes "queue")))
  number_at 1 8 word.1

-- how many calls wait at an entry at most
abbrev pub longest_at : Profile → List ℕ → Result (ℕ × List ℕ) DeckReason
longest_at Ravenscar words = Ok (1, words)
longest_at Jorvik words = if is_at_end words then Ok (1, words) else queue_at words

-- `entry NAME when BOOL`, or under Jorvik `entry NAME when BOOL queue LONGEST`, whose body begins
unfoldable pub entry_line : Profile → ObjectText → List ℕ → Result ObjectText DeckReason
entry_line profile o words = do
  few ← room (most_entries profile) (length o.entries)
  name ← new_name_at o.operation_names words
  word ← word_at name.1
  is_when ← unless UnknownWord (not (bytes_eq word.0 (codes "when")))
  bool ← word_at word.1
  barrier ← bool_of o.component_names o.components bool.0
  longest ← longest_at profile bool.1
  begun_line o name.0 (heads.Entry barrier longest.0) longest.1

-- an operation whose body has ended, by what it is
abbrev pub completed_as : Head → List ℕ → BodyText → ObjectText → ObjectText
completed_as heads.Procedure name body o = record o {
  operation_names = o.operation_names ++ name ∷ [];
  operations = o.operations ++ operations.Procedure (length o.procedures + 1) ∷ [];
  procedures = o.procedures ++ body ∷ [];
  open_operation = None;
}
completed_as (heads.Entry barrier longest) name body o = record o {
  operation_names = o.operation_names ++ name ∷ [];
  operations = o.operations ++ operations.Entry (length o.entries + 1) ∷ [];
  entry_names = o.entry_names ++ name ∷ [];
  entries = o.entries ++ record { barrier = barrier; longest = longest; body = body } ∷ [];
  open_operation = None;
}

-- an operation after a line of its body, which may have ended it
abbrev pub with_body : ObjectText → OpenOperationText → OpenBodyText × Bool → ObjectText
with_body o operation (body, false) =
    record o { open_operation = Some (record operation { body = body }) }
with_body o operation (body, true) = completed_as operation.head operation.name body.statements o

-- what a line of an object declares by its first word
abbrev pub part_named : List ℕ → Option Part
part_named first =
    if bytes_eq first (codes "int") then Some parts.Int
    else if bytes_eq first (codes "bool") then Some parts.Bool
    else if bytes_eq first (codes "function") then Some parts.Function
    else if bytes_eq first (codes "procedure") then Some parts.Procedure
    else if bytes_eq first (codes "entry") then Some parts.Entry
    else None

abbrev pub part_line : Profile → ObjectText → Option Part → List ℕ → Result ObjectText DeckReason
part_line profile o None words = Err UnknownWord
part_line profile o (Some parts.Int) words = int_line o words
part_line profile o (Some parts.Bool) words = bool_line o words
part_line profile o (Some parts.Function) words = function_line o words
part_line profile o (Some parts.Procedure) words = procedure_line o words
part_line profile o (Some parts.Entry) words = entry_line profile o words

-- a line of an operation's body
unfoldable pub operation_line : ObjectText → OpenOperationText → LineText
    → Result ObjectText DeckReason
operation_line o operation line = do
  after ← body_line o.component_names o.components operation.body line
  Ok (with_body o operation after)

-- a line of the object itself, or of the body of an operation
abbrev pub line_within : Option OpenOperationText → Profile → ObjectText → LineText
    → Result ObjectText DeckReason
line_within None profile o line = part_line profile o (part_named line.first) line.rest
line_within (Some operation) profile o line = operation_line o operation line

abbrev pub object_step : Profile → ObjectText → LineText → Result ObjectText DeckReason
object_step profile o line =
    line_within o.open_operation profile (record o { open_operation = None }) line
