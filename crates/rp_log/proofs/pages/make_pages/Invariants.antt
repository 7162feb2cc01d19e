-- the pages that were made so far have no action
use Rattle.std.proofs.Common.{◌≡◌, ◌-◌, ◌≤◌, ℕ, length}
use Rattle.rp_log.specs.Pages.{joined, AreFilled}
use Rattle.rp_log.proofs.pages.make_pages.Given as goal

abbrev pub invariant-loop-alloc : goal.invariant-loop-alloc
invariant-loop-alloc l = record {
  items : joined l.pages.items ≡ joined l.initial.pages.items;
  filled : (actions : ℕ) → AreFilled l.initial.pages.items actions → AreFilled l.pages.items actions;
  kept : length l.initial.pages.items ≤ length l.pages.items;
}

abbrev pub decreases-loop-alloc : goal.decreases-loop-alloc
decreases-loop-alloc l = l.count - length l.pages.items
