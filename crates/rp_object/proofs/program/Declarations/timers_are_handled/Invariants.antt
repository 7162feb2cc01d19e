use Rattle.std.proofs.Common.{ℕ, ◌≡◌, ◌<◌, true, get_or}
use Rattle.rp_object.specs.declared.program.TimingEvent.{TimingEvent}
use Rattle.rp_object.specs.Program.{is_handler}
use Rattle.rp_object.proofs.program.Declarations.timers_are_handled.Given as goal

abbrev pub invariant-loop-timer : goal.invariant-loop-timer
invariant-loop-timer l = (k : ℕ) → k < l.timer-index → (d : TimingEvent) → is_handler l.self (get_or l.timer-items k d).handler ≡ true
