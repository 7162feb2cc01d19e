use Rattle.std.proofs.Common.{◌+◌, ◌-◌, ◌≡◌, ℕ, ◌&&◌, ◌||◌, ◌≤◌, false}
use Rattle.std.specs.Prelude.{nat_le, nat_lt, min}
use Rattle.rp_run.specs.Settled.{is_settled}
use Rattle.rp_run.proofs.settled.Settled.settle_all.Given as goal

-- those from the first to the one before are settled
abbrev pub invariant-loop-message : goal.invariant-loop-message
invariant-loop-message l = record {
  above : l.first ≤ l.message;
  unsettled : is_settled l.self l.message ≡ false;
  settled : (m : ℕ) → is_settled l.self m ≡ ((nat_le l.first m && nat_lt m (min l.message (l.last + 1))) || is_settled l.fn.self m);
}

abbrev pub decreases-loop-message : goal.decreases-loop-message
decreases-loop-message l = l.last + 1 - l.message
