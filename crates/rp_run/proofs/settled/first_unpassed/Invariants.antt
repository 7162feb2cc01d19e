use Rattle.std.proofs.Common.{◌≡◌, ℕ, ◌-◌, ◌<◌, ◌≤◌, true, length}
use Rattle.rp_run.specs.NextNumbers.{is_passed, LeadsOn}
use Rattle.rp_run.proofs.settled.first_unpassed.Given as goal

-- the numbers up to the one that was reached are passed, and no number was passed or is no more
abbrev pub invariant-loop-after : goal.invariant-loop-after
invariant-loop-after l = record {
  from : l.from ≤ l.number;
  same : (m : ℕ) → is_passed l.next.items m ≡ is_passed l.fn.next.items m;
  passed : (m : ℕ) → l.from ≤ m → m < l.number → is_passed l.fn.next.items m ≡ true;
  leads_on : (least : ℕ) → least ≤ l.from → LeadsOn least l.fn.next.items → LeadsOn least l.next.items;
  size : length l.next.items ≡ length l.fn.next.items;
}

abbrev pub decreases-loop-after : goal.decreases-loop-after
decreases-loop-after l = length l.next.items - l.number
