use Rattle.std.proofs.Common.{ℕ, ◌<◌, IsTrue, FitsSigned, w64}
use Rattle.std.specs.Prelude.{IfSome}
use Rattle.std.specs.FinMap.{get}
use Rattle.rp_entry.specs.rp_body.specs.Store.{is_within}
use Rattle.rp_object.proofs.program.is_in_range.Given as goal

abbrev pub invariant-loop-name : goal.invariant-loop-name
invariant-loop-name l = (k : ℕ) → k < l.name → IfSome (get l.components.ints k) (λ c. IsTrue (is_within c.low c.high c.value) × FitsSigned w64 c.low × FitsSigned w64 c.high)
