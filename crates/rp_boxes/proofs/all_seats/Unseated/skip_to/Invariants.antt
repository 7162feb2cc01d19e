-- The actors below some number are passed over.
use Rattle.std.proofs.Common.{◌≡◌, ◌≤◌, ◌-◌}
use Rattle.rp_boxes.proofs.all_seats.Unseated.skip_to.Given as goal

abbrev pub invariant-loop-self : goal.invariant-loop-self
invariant-loop-self g l = record {
  same : l.self ≡ record l.initial.self { next = l.self.next };
  most : l.self.next ≤ l.actor;
}

abbrev pub decreases-loop-self : goal.decreases-loop-self
decreases-loop-self g l = l.actor - l.self.next
