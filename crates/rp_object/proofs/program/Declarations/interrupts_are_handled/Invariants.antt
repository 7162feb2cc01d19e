use Rattle.std.proofs.Common.{ℕ, ◌≡◌, ◌<◌, true, get_or}
use Rattle.rp_object.specs.declared.program.Handler.{Handler}
use Rattle.rp_object.specs.Program.{is_handler}
use Rattle.rp_object.proofs.program.Declarations.interrupts_are_handled.Given as goal

abbrev pub invariant-loop-handler : goal.invariant-loop-handler
invariant-loop-handler l = (k : ℕ) → k < l.handler-index → (d : Handler) → is_handler l.self (get_or l.handler-items k d) ≡ true
