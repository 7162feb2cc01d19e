-- A deck as it is written, as plain data: what is declared has a name, and whatever uses it has that
-- name, never a number.
use Rattle.std.specs.Prelude.{ℕ, ℤ, Bool, List, Option, flat_map, map, []}
use Rattle.std.specs.Prelude.{◌∷◌}
use Rattle.rp_object.specs.declared.program.Profile.{Profile}

-- ---- expressions, conditions and bodies

pub data NamedExpr : Type 0 where
  Number : (number : ℤ) → NamedExpr
  Arg : NamedExpr
  Out : NamedExpr
  Int : (name : List ℕ) → NamedExpr
  Add : (first second : NamedExpr) → NamedExpr
  Sub : (first second : NamedExpr) → NamedExpr

pub data NamedCond : Type 0 where
  Constant : (truth : Bool) → NamedCond
  Named : (name : List ℕ) → NamedCond
  Less : (first second : NamedExpr) → NamedCond
  LessOrEqual : (first second : NamedExpr) → NamedCond
  Equal : (first second : NamedExpr) → NamedCond
  Not : (negated : NamedCond) → NamedCond
  And : (first second : NamedCond) → NamedCond
  Or : (first second : NamedCond) → NamedCond

-- statements in order: the last one, and those before it
pub data NamedBody : Type 0 where
  Empty : NamedBody
  Set : (before : NamedBody) (name : List ℕ) (value : NamedExpr) → NamedBody
  Put : (before : NamedBody) (name : List ℕ) (value : NamedCond) → NamedBody
  Return : (before : NamedBody) (value : NamedExpr) → NamedBody
  If : (before : NamedBody) (condition : NamedCond) (first second : NamedBody) → NamedBody

-- ---- a protected object

-- a whole number: its range, and its first value
pub record NamedInt : Type 0 where
  pub name : List ℕ
  pub low : ℤ
  pub high : ℤ
  pub value : ℤ

-- a Boolean, and its first value
pub record NamedBool : Type 0 where
  pub name : List ℕ
  pub value : Bool

-- what a function returns
pub data NamedResult : Type 0 where
  Value : (value : NamedExpr) → NamedResult
  Truth : (truth : NamedCond) → NamedResult

pub record NamedFunction : Type 0 where
  pub name : List ℕ
  pub result : NamedResult

pub record NamedProcedure : Type 0 where
  pub name : List ℕ
  pub body : NamedBody

-- an entry: its barrier is a Boolean, and at most so many calls wait at it
pub record NamedEntry : Type 0 where
  pub name : List ℕ
  pub barrier : List ℕ
  pub longest : ℕ
  pub body : NamedBody

pub data NamedPart : Type 0 where
  AnInt : (int : NamedInt) → NamedPart
  ABool : (bool : NamedBool) → NamedPart
  AFunction : (function : NamedFunction) → NamedPart
  AProcedure : (procedure : NamedProcedure) → NamedPart
  AnEntry : (entry : NamedEntry) → NamedPart

pub record NamedObject : Type 0 where
  pub name : List ℕ
  pub ceiling : ℕ
  pub parts : List NamedPart

-- ---- a deck

pub record NamedTask : Type 0 where
  pub name : List ℕ
  pub priority : ℕ

-- an interrupt or a timing event, whose handler is a procedure of an object
pub record NamedHandler : Type 0 where
  pub name : List ℕ
  pub object : List ℕ
  pub procedure : List ℕ

pub data NamedStep : Type 0 where
  Deliver : (message : ℕ) → NamedStep
  Lead : (node : ℕ) (position : Option ℕ) → NamedStep
  LeadRange : (node first count : ℕ) → NamedStep
  Interrupt : (node : ℕ) (name : List ℕ) (occurrence : ℕ) → NamedStep
  Tick : (node now : ℕ) → NamedStep

pub data NamedCommand : Type 0 where
  Call : (task : List ℕ) (node : ℕ) (object operation : List ℕ) (arg : ℤ) → NamedCommand
  Arm : (task : List ℕ) (node : ℕ) (timer : List ℕ) (time : ℤ) → NamedCommand
  Disarm : (task : List ℕ) (node : ℕ) (timer : List ℕ) → NamedCommand
  Again : (task : List ℕ) (node : ℕ) → NamedCommand
  Makes : (step : NamedStep) → NamedCommand
  Cut : (kept : ℕ) (step : NamedStep) → NamedCommand
  Stop : (node : ℕ) → NamedCommand
  Restart : (node : ℕ) → NamedCommand
  Lose : (first last : ℕ) → NamedCommand
  Drain : NamedCommand
  Show : NamedCommand

-- a deck of protected objects
pub record NamedDeck : Type 0 where
  pub nodes : ℕ
  pub positions : Option ℕ
  pub profile : Option Profile
  pub tasks : List NamedTask
  pub objects : List NamedObject
  pub interrupts : List NamedHandler
  pub timers : List NamedHandler
  pub script : List NamedCommand

-- ---- the parts of each kind, in order

abbrev pub int_of : NamedPart → List NamedInt
int_of (AnInt int) = int ∷ []
int_of _ = []

abbrev pub bool_of : NamedPart → List NamedBool
bool_of (ABool bool) = bool ∷ []
bool_of _ = []

abbrev pub function_of : NamedPart → List NamedFunction
function_of (AFunction function) = function ∷ []
function_of _ = []

abbrev pub procedure_of : NamedPart → List NamedProcedure
procedure_of (AProcedure procedure) = procedure ∷ []
procedure_of _ = []

abbrev pub entry_of : NamedPart → List NamedEntry
entry_of (AnEntry entry) = entry ∷ []
entry_of _ = []

abbrev pub ints : List NamedPart → List NamedInt
ints parts = flat_map int_of parts

abbrev pub bools : List NamedPart → List NamedBool
bools parts = flat_map bool_of parts

abbrev pub functions : List NamedPart → List NamedFunction
functions parts = flat_map function_of parts

abbrev pub procedures : List NamedPart → List NamedProcedure
procedures parts = flat_map procedure_of parts

abbrev pub entries : List NamedPart → List NamedEntry
entries parts = flat_map entry_of parts

-- ---- and their names

abbrev pub int_names : List NamedPart → List (List ℕ)
int_names parts = map (λ int. int.name) (ints parts)

abbrev pub bool_names : List NamedPart → List (List ℕ)
bool_names parts = map (λ bool. bool.name) (bools parts)

abbrev pub function_names : List NamedPart → List (List ℕ)
function_names parts = map (λ function. function.name) (functions parts)

abbrev pub procedure_names : List NamedPart → List (List ℕ)
procedure_names parts = map (λ procedure. procedure.name) (procedures parts)

abbrev pub entry_names : List NamedPart → List (List ℕ)
entry_names parts = map (λ entry. entry.name) (entries parts)

abbrev pub component_of : NamedPart → List (List ℕ)
component_of (AnInt int) = int.name ∷ []
component_of (ABool bool) = bool.name ∷ []
component_of _ = []

abbrev pub operation_of : NamedPart → List (List ℕ)
operation_of (AFunction function) = function.name ∷ []
operation_of (AProcedure procedure) = procedure.name ∷ []
operation_of (AnEntry entry) = entry.name ∷ []
operation_of _ = []

abbrev pub component_names : List NamedPart → List (List ℕ)
component_names parts = flat_map component_of parts

abbrev pub operation_names : List NamedPart → List (List ℕ)
operation_names parts = flat_map operation_of parts

abbrev pub task_names : List NamedTask → List (List ℕ)
task_names tasks = map (λ task. task.name) tasks

abbrev pub object_names : List NamedObject → List (List ℕ)
object_names objects = map (λ object. object.name) objects

abbrev pub handler_names : List NamedHandler → List (List ℕ)
handler_names handlers = map (λ handler. handler.name) handlers
