-- A task's calls as its stub keeps them.
use Rattle.std.specs.Prelude.{ℕ, ◌+◌, Option, Some, None, is_some, if◌then◌else◌}
use Rattle.rp_base.specs.declared.fault.Fault.{Fault}
use Rattle.rp_base.specs.declared.fault.Fault.TheVariants.{TaskBusy, NumbersSpent}
use Rattle.rp_base.specs.declared.action.Action.{Action}
use Rattle.rp_base.specs.Calls.{are_exhausted}

-- a task, how many calls it has made, and the one that has no reply yet
pub record Calls : Type 0 where
  pub task : ℕ
  pub made : ℕ
  pub outstanding : Option Action

-- a task that has made n calls, none of which is outstanding
abbrev pub task_after : ℕ → ℕ → Calls
task_after task made = record { task = task; made = made; outstanding = None }

-- a task that has made no call
abbrev pub no_calls : ℕ → Calls
no_calls task = task_after task 0

-- why the next call is refused, if it is: while one is outstanding, and else once the numbers are
-- exhausted
abbrev pub refusal_of : Calls → Option Fault
refusal_of calls =
    if is_some calls.outstanding then Some TaskBusy
    else if are_exhausted calls.made then Some NumbersSpent else None

-- the calls once this one is made
abbrev pub with_call : Calls → Action → Calls
with_call calls call = record calls { made = calls.made + 1; outstanding = Some call }

-- the calls once the outstanding one has its reply
abbrev pub with_reply : Calls → Calls
with_reply calls = record calls { outstanding = None }
