-- What a tick fires, and the clock that the ticks of a log lead to (Ada Reference Manual, section
-- D.15; the order and the clock are ours).
use Rattle.std.specs.Prelude.{◌≡◌, ◌⊎◌, ◌≤◌, ◌<ℤ◌, ◌≤ℤ◌, ℕ, ℤ, pos, Option, Some, None, List, []}
use Rattle.std.specs.Prelude.{◌++◌}
use Rattle.rp_base.specs.declared.action.Action.{Action}
use Rattle.rp_base.specs.declared.action.Action.TheVariants.{Noop, Call, Interrupt, Tick}
use Rattle.rp_base.specs.declared.reply.Answer.{Answer}
use Rattle.rp_entry.specs.Operations.{of_index}
use Rattle.rp_entry.specs.Queue.{State}
use Rattle.rp_entry.specs.Protected.{Protected}
use Rattle.rp_entry.specs.Actions.{Acts, event}
use Rattle.rp_object.specs.declared.program.Handler.{Handler}
use Rattle.rp_object.specs.declared.program.Declarations.{Declarations}
use Rattle.rp_object.specs.Program.{timer_handler}
use Rattle.rp_object.specs.State.{ProgramState}
use Rattle.rp_object.specs.Step.{with_object, with_timer}

-- the timing event of this number is set for this time, and the clock has come to it
pub record IsDue (state : ProgramState) (time : ℤ) (number : ℕ) : Type 0 where
  pub set : of_index state.timers number ≡ Some (Some time)
  pub reached : time ≤ℤ pos state.clock

-- it is due, and each that is due is set for a later time, or for the same time and its number is
-- no lower
pub record IsFirstDue (state : ProgramState) (time : ℤ) (number : ℕ) : Type 0 where
  pub due : IsDue state time number
  pub first : (later : ℤ) (other : ℕ) → IsDue state later other
      → (time <ℤ later) ⊎ ((time ≡ later) × (number ≤ other))

-- the handler of the timing event runs: a protected action of its object that no task asks for, and
-- after which callers that wait may be served (sections 9.5.3 and D.15)
pub record RunsHandler (program : Declarations) (number : ℕ) (before : ProgramState)
    (served : List Answer) (after : ProgramState) : Type 0 where
  pub handler : Handler
  pub object : Protected
  pub state : State
  pub declared : timer_handler program number ≡ Some handler
  pub there : of_index before.objects handler.object ≡ Some object
  pub action : Acts object.operations object.state (event handler.procedure) None served state
  pub follows : after ≡ with_object before handler.object (record object { state = state })

-- Timing events fire one after another, until none is due.
pub data Fires (program : Declarations) : ProgramState → List Answer → ProgramState → Type 0 where
  -- none is due
  ends : {state : ProgramState} → ((time : ℤ) (number : ℕ) → ¬ IsDue state time number)
      → Fires program state [] state
  -- the first that is due is no longer set, and then its handler runs (section D.15)
  goes_on : {before between after : ProgramState} {time : ℤ} {number : ℕ}
      {served more : List Answer}
      → IsFirstDue before time number
      → RunsHandler program number (with_timer before number None) served between
      → Fires program between more after
      → Fires program before (served ++ more) after

-- the time of the action, if it is a tick
abbrev pub tick_of : Action → Option ℕ
tick_of Noop = None
tick_of (Call task number object operation arg) = None
tick_of (Interrupt source occurrence) = None
tick_of (Tick now) = Some now
