use Rattle.std.proofs.Common.{ℕ, ◌<◌, get_or}
use Rattle.rp_entry.specs.declared.operations.Function.{Function}
use Rattle.rp_entry.specs.Operations.{FunctionFits}
use Rattle.rp_entry.proofs.operations.functions_fit.Given as goal

abbrev pub invariant-loop-function : goal.invariant-loop-function
invariant-loop-function l = (k : ℕ) → k < l.function-index → (d : Function) → FunctionFits l.limits (get_or l.functions k d)
