-- The states that a program reaches: what its start has and every action keeps (Ada Reference
-- Manual, section 9.5.3; the limits are ours).
use Rattle.std.specs.Prelude.{◌≡◌, ◌<◌, ◌^◌, FitsSigned, IfSome, List, [], ◌∷◌, length}
use Rattle.std.specs.Int.{w64}
use Rattle.std.specs.List.{All, AllZip}
use Rattle.rp_base.specs.Number.{IsTask}
use Rattle.rp_base.specs.Action.{IsCount}
use Rattle.rp_base.specs.Sets.{Has, IsSet}
use Rattle.rp_entry.specs.rp_body.specs.Ranges.{HasRangesOf, HasBoolsOf, IsInRange}
use Rattle.rp_entry.specs.declared.state.Waiting.{Waiting}
use Rattle.rp_entry.specs.Queue.{IsServiced, all_calls}
use Rattle.rp_entry.specs.Protected.{Protected, IsShort}
use Rattle.rp_object.specs.declared.program.ObjectDeclaration.{ObjectDeclaration}
use Rattle.rp_object.specs.declared.program.Declarations.{Declarations}
use Rattle.rp_object.specs.Program.{operations_of}
use Rattle.rp_object.specs.State.{Running}
use Rattle.rp_object.specs.Step.{tasks_waiting}

-- the numbers of a call fit their types
pub record IsCall (call : Waiting) : Type 0 where
  pub task : IsTask call.task
  pub number : IsCount call.number
  pub arg : FitsSigned w64 call.arg

-- the object is the declared one: its operations, its components' names and their ranges are those
-- declared, the values lie in their ranges, each entry has its queue, which is not too long, and
-- nobody waits at an open barrier (section 9.5.3)
pub record IsObjectOf (declared : ObjectDeclaration) (object : Protected) : Type 0 where
  pub operations : object.operations ≡ operations_of declared
  pub ranges : HasRangesOf declared.components object.state.store
  pub bools : HasBoolsOf declared.components object.state.store
  pub values : IsInRange object.state.store
  pub queues : AllZip IsShort (operations_of declared).entries.items object.state.queues
  pub calls : (call : Waiting) → Has call (all_calls object.state.queues) → IsCall call
  pub serviced : IsServiced (operations_of declared) object.state

-- each of these objects has a queue for each of its entries
abbrev pub HaveQueues : List Protected → Type 0
HaveQueues [] = Unit {0}
HaveQueues (object ∷ rest) =
    (length object.state.queues ≡ length object.operations.entries.items) × HaveQueues rest

-- The state is one of the program's: each object is as declared, each timing event that is declared
-- is there, times and clock fit their types, and no task waits twice.
pub record IsStateOf (program : Declarations) (running : Running) : Type 0 where
  pub declared : running.program ≡ program
  pub objects : AllZip IsObjectOf program.objects.items running.state.objects
  pub all_timers : length running.state.timers ≡ length program.timers.items
  pub times : All (λ time. IfSome time (FitsSigned w64)) running.state.timers
  pub clock : running.state.clock < 2 ^ 32
  pub tasks : IsSet (tasks_waiting running)
