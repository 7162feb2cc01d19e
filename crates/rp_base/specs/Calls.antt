-- A task's calls. Their numbers count up from 1, and at most one call has no reply yet.
use Rattle.std.specs.Prelude.{ℕ, suc, ◌-◌, ◌^◌, ℤ, Bool, ◌&&◌, nat_eq, nat_lt, nat_le, Option, Some}
use Rattle.std.specs.Prelude.{None}
use Rattle.rp_base.specs.declared.action.Action.{Action}
use Rattle.rp_base.specs.declared.action.Action.TheVariants.{Noop, Call, Interrupt, Tick}
use Rattle.rp_base.specs.declared.action.Operation.{Operation}

-- the greatest number of a call
abbrev pub greatest_number : ℕ
greatest_number = 2 ^ 32 - 1

-- the next call of a task that has made n
abbrev pub next_call : ℕ → ℕ → ℕ → Operation → ℤ → Action
next_call task made object operation arg = Call task (suc made) object operation arg

-- a task that has made n calls has no number for another
abbrev pub are_exhausted : ℕ → Bool
are_exhausted made = nat_le greatest_number made

-- the number of the call that a task waits for, 0 where it waits for none
abbrev pub outstanding_number : Option Action → ℕ
outstanding_number None = 0
outstanding_number (Some Noop) = 0
outstanding_number (Some (Call task number object operation arg)) = number
outstanding_number (Some (Interrupt source occurrence)) = 0
outstanding_number (Some (Tick now)) = 0

-- a reply of this number is to the call that the task waits for
abbrev pub is_reply_to : ℕ → Option Action → Bool
is_reply_to number outstanding = nat_lt 0 number && nat_eq number (outstanding_number outstanding)
