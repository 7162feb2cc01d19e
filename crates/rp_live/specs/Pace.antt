-- Which turns of a run a node takes, and when the run is over.
use Rattle.std.specs.Prelude.{◌≡◌, ℕ, ◌≤◌, Bool, true, false, not, Option, Result, Ok, Err}
use Rattle.rp_threads.specs.rp_base.specs.declared.fault.Fault.{Fault}
use Rattle.rp_threads.specs.rp_base.specs.declared.fault.Fault.TheVariants.{OutOfMemory}
use Rattle.rp_threads.specs.rp_codec.specs.declared.packet.Party.{Party}
use Rattle.rp_threads.specs.Loops.{is_to_lead}

-- in all but those in which it is to lead: it leads only by its patience
abbrev pub paced : ℕ → ℕ → Bool
paced number turn = not (is_to_lead number turn)

-- so the gate answers
abbrev pub lets : ℕ → ℕ → Bool → Type 0
lets number turn passes = passes ≡ paced number turn

-- in so many turns one after the other a node looks into each box that it ever empties
abbrev pub calm_turns : ℕ
calm_turns = 128

-- the run is over for a node or a task only once it has rested for so many turns; it is stopped only
-- because memory ran out, or a thread could not be started
abbrev pub over : Party → ℕ → ℕ → Result Bool Fault → Type 0
over actor turn rested (Ok true) = calm_turns ≤ rested
over actor turn rested (Ok false) = Unit {0}
over actor turn rested (Err fault) = fault ≡ OutOfMemory

-- of its calls after a turn of a node, at the end of a loop and where a thread is not started nothing
-- is stated
abbrev pub heard : ℕ → ℕ → ℕ → Type 0
heard number turn sent = Unit {0}

abbrev pub ended : Party → Option Fault → Type 0
ended actor fault = Unit {0}

abbrev pub stopped : Bool → Type 0
stopped is_stopped = Unit {0}
