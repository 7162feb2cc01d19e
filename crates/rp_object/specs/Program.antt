-- What is declared, and which declarations are right (the limits are ours).
use Rattle.std.specs.Prelude.{◌≡◌, ℕ, ◌≤◌, nat_le, nat_eq, Bool, true, false, ◌&&◌, Option, Some}
use Rattle.std.specs.Prelude.{None, is_some, option_map, IfSome, FitsSigned, length}
use Rattle.std.specs.Int.{w64}
use Rattle.std.specs.List.{All}
use Rattle.std.specs.FinMap.{get, len}
use Rattle.std.specs.Arc.{arc_value}
use Rattle.rp_base.specs.declared.action.Operation.{Operation}
use Rattle.rp_base.specs.declared.action.Operation.TheVariants.{Function, Procedure, Entry}
use Rattle.rp_base.specs.declared.action.Operation.TheVariants.{SetTimer, CancelTimer}
use Rattle.rp_entry.specs.rp_body.specs.Store.{Store, limits_of}
use Rattle.rp_entry.specs.rp_body.specs.Ranges.{IsInRange, IsNumbered}
use Rattle.rp_entry.specs.declared.operations.Operations.{Operations}
use Rattle.rp_entry.specs.Operations.{of_index, OperationsFit}
use Rattle.rp_object.specs.declared.program.Handler.{Handler}
use Rattle.rp_object.specs.declared.program.Profile.{Profile}
use Rattle.rp_object.specs.declared.program.Profile.TheVariants.{Ravenscar, Jorvik}
use Rattle.rp_object.specs.declared.program.ObjectDeclaration.{ObjectDeclaration}
use Rattle.rp_object.specs.declared.program.Declarations.{Declarations}

-- the operations of an object
abbrev pub operations_of : ObjectDeclaration → Operations
operations_of declaration = arc_value declaration.operations

-- the object has the function, the procedure or the entry; a timing event is no operation of an
-- object
abbrev pub has_operation : Operation → Operations → Bool
has_operation (Function index) operations = is_some (of_index operations.functions.items index)
has_operation (Procedure index) operations = is_some (of_index operations.procedures.items index)
has_operation (Entry index) operations = is_some (of_index operations.entries.items index)
has_operation (SetTimer index) operations = false
has_operation (CancelTimer index) operations = false

-- whether there is one, and it is so
abbrev pub is_some_and : {X : Type 0} → (X → Bool) → Option X → Bool
is_some_and test None = false
is_some_and test (Some x) = test x

-- the object of this number has the operation
abbrev pub object_has : Declarations → ℕ → Operation → Bool
object_has program object operation =
    is_some_and (λ declared. has_operation operation (operations_of declared))
    (of_index program.objects.items object)

-- the handler of the timing event of this number belongs to the object
abbrev pub timer_is_of : Declarations → ℕ → ℕ → Bool
timer_is_of program object number =
    is_some_and (λ timer. nat_eq timer.handler.object object) (of_index program.timers.items number)

-- the object has what is called
abbrev pub is_offered : Declarations → ℕ → Operation → Bool
is_offered program object (Function index) = object_has program object (Function index)
is_offered program object (Procedure index) = object_has program object (Procedure index)
is_offered program object (Entry index) = object_has program object (Entry index)
is_offered program object (SetTimer index) = timer_is_of program object index
is_offered program object (CancelTimer index) = timer_is_of program object index

-- the task is declared, and the object has what it calls
abbrev pub is_declared : Declarations → ℕ → ℕ → Operation → Bool
is_declared program task object operation =
    is_some (of_index program.priorities.items task) && is_offered program object operation

-- the task's base priority is not above the object's ceiling (Ada Reference Manual, section D.3);
-- equal is allowed
abbrev pub is_within_ceiling : Declarations → ℕ → ℕ → Bool
is_within_ceiling program task object =
    is_some_and (λ priority. is_some_and (λ declared. nat_le priority declared.ceiling)
    (of_index program.objects.items object)) (of_index program.priorities.items task)

-- the handler of the interrupt of this number, if it is declared (section C.3)
abbrev pub interrupt_handler : Declarations → ℕ → Option Handler
interrupt_handler program source = of_index program.interrupts.items source

-- the handler of the timing event of this number, if it is declared (section D.15)
abbrev pub timer_handler : Declarations → ℕ → Option Handler
timer_handler program number =
    option_map (λ timer. timer.handler) (of_index program.timers.items number)

-- a priority or a ceiling is 1 to 30
abbrev pub IsPriority : ℕ → Type 0
IsPriority n = (1 ≤ n) × (n ≤ 30)

-- the most tasks, objects, interrupts or timing events, and the most components of a kind
abbrev pub most_declared : ℕ
most_declared = 8

-- both ends of each range fit 64 signed bits
abbrev pub EndsFit : Store → Type 0
EndsFit store =
    (name : ℕ) → IfSome (get store.ints name)
    (λ component. FitsSigned w64 component.low × FitsSigned w64 component.high)

-- an object has its ceiling, at most 8 components of each kind, named by the numbers from 0, a name
-- for each component and each entry, ranges of 64 bits, first values in their ranges, and
-- operations that fit the components
pub record DeclarationFits (declared : ObjectDeclaration) : Type 0 where
  pub ceiling : IsPriority declared.ceiling
  pub few_ints : length declared.ints.items ≤ most_declared
  pub few_bools : length declared.bools.items ≤ most_declared
  pub ints : length declared.ints.items ≡ len declared.components.ints
  pub bools : length declared.bools.items ≡ len declared.components.bools
  pub entries : length declared.entries.items ≡ length (operations_of declared).entries.items
  pub numbered : IsNumbered declared.components
  pub ends : EndsFit declared.components
  pub in_range : IsInRange declared.components
  pub operations : OperationsFit (limits_of declared.components) (operations_of declared)

-- the handler's object has the procedure
abbrev pub is_handler : Declarations → Handler → Bool
is_handler program handler = object_has program handler.object (Procedure handler.procedure)

-- under the Ravenscar profile an object has at most one entry, at which one call waits
-- (Max_Protected_Entries and Max_Entry_Queue_Length, section D.13); under Jorvik its operations'
-- own limits are all
abbrev pub KeepsProfile : Profile → Operations → Type 0
KeepsProfile Ravenscar operations =
    (length operations.entries.items ≤ 1)
    × All (λ entry. entry.longest ≡ 1) operations.entries.items
KeepsProfile Jorvik operations = Unit {0}

-- A right program: each kind is declared at most 8 times, priorities are in their range, each
-- object fits and keeps the profile, and each handler is there.
pub record IsProgram (program : Declarations) : Type 0 where
  pub task_count : length program.priorities.items ≤ most_declared
  pub object_count : length program.objects.items ≤ most_declared
  pub interrupt_count : length program.interrupts.items ≤ most_declared
  pub timer_count : length program.timers.items ≤ most_declared
  pub tasks : All IsPriority program.priorities.items
  pub objects : All DeclarationFits program.objects.items
  pub profile : All (λ declared. KeepsProfile program.profile (operations_of declared))
      program.objects.items
  pub interrupts : All (λ handler. is_handler program handler ≡ true) program.interrupts.items
  pub timers : All (λ timer. is_handler program timer.handler ≡ true) program.timers.items
