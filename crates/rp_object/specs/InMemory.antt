-- How memory holds a program that runs (no public clause names it).
use Rattle.std.specs.Prelude.{◌≡◌, ℕ, ℤ, Option, List, length, flat_map}
use Rattle.std.specs.List.{AllZip}
use Rattle.rp_base.specs.Number.{IsTask}
use Rattle.rp_base.specs.Sets.{Has, IsSet}
use Rattle.rp_entry.specs.Protected.{Protected}
use Rattle.rp_object.specs.declared.program.ObjectDeclaration.{ObjectDeclaration}
use Rattle.rp_object.specs.declared.program.Declarations.{Declarations}
use Rattle.rp_object.specs.Program.{operations_of, IsProgram}
use Rattle.rp_object.specs.Step.{waiting_at, tasks_of}

-- an object has the operations that are declared, and a queue for each of its entries
pub record IsMade (declared : ObjectDeclaration) (object : Protected) : Type 0 where
  pub operations : object.operations ≡ operations_of declared
  pub queues : length object.state.queues ≡ length declared.entries.items

-- the tasks that wait at these objects
abbrev pub tasks_at : List Protected → List ℕ
tasks_at objects = tasks_of (flat_map waiting_at objects)

-- how many calls wait at these objects
abbrev pub waiting_count : List Protected → ℕ
waiting_count objects = length (flat_map waiting_at objects)

-- the program is right, each object and each timing event that is declared is there, and a task
-- waits at one place at most, so that there are no more answers than tasks
pub record AreObjects (program : Declarations) (objects : List Protected) (timers : List (Option ℤ))
    : Type 0 where
  pub right : IsProgram program
  pub all_objects : length objects ≡ length program.objects.items
  pub made : AllZip IsMade program.objects.items objects
  pub all_timers : length timers ≡ length program.timers.items
  pub tasks : (task : ℕ) → Has task (tasks_at objects) → IsTask task
  pub apart : IsSet (tasks_at objects)
