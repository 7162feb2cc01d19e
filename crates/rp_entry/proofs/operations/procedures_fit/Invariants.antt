use Rattle.std.proofs.Common.{ℕ, ◌<◌, get_or, Vec, Global}
use Rattle.rp_body.specs.declared.statement.Stmt.{Stmt}
use Rattle.rp_body.specs.Check.{KeepsLimits}
use Rattle.rp_entry.proofs.operations.procedures_fit.Given as goal

abbrev pub invariant-loop-body : goal.invariant-loop-body
invariant-loop-body l = (k : ℕ) → k < l.body-index → (d : Vec Stmt Global) → KeepsLimits l.limits (get_or l.procedures k d).items
