use Rattle.std.proofs.Common.{◌≡◌, ℕ, length}
use Rattle.rp_run.specs.NextNumbers.{is_passed, LeadsOn}
use Rattle.rp_run.proofs.settled.pass_over.Given as goal

-- the numbers that are stored anew are not passed
abbrev pub invariant-loop-unpassed : goal.invariant-loop-unpassed
invariant-loop-unpassed l = record {
  size : l.unpassed ≡ length l.next.items;
  same : (m : ℕ) → is_passed l.next.items m ≡ is_passed l.fn.next.items m;
  leads_on : (least : ℕ) → LeadsOn least l.fn.next.items → LeadsOn least l.next.items;
}
