use Rattle.std.proofs.Common.{◌≡◌, take}
use Rattle.rp_object.proofs.Timing.{IsBest}
use Rattle.rp_object.proofs.objects.Objects.next_due.Given as goal

abbrev pub invariant-loop-timer : goal.invariant-loop-timer
invariant-loop-timer l = record {
  number : l.number ≡ l.timer-index;
  best : IsBest l.self-inside.clock (take l.timer-index l.timer-items) l.next;
}
