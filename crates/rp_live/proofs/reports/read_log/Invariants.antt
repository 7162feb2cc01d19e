-- The node has only reported, and this is what the audit knows of it.
use Rattle.std.proofs.Common.{◌≡◌, ◌-◌, ℕ, length}
use Rattle.rp_boxes.specs.Audits.{known_of}
use Rattle.rp_boxes.specs.NodeSeats.{HasApplied}
use Rattle.rp_live.specs.Seats.{AreReports, HasOnlyReported, KnowsMore, KnowsSameBut}
use Rattle.rp_live.proofs.reports.read_log.Given as goal

abbrev pub invariant-loop-known : goal.invariant-loop-known
invariant-loop-known g l = record {
  same : l.audit.seat.setup ≡ l.fn.audit.seat.setup;
  reported : HasOnlyReported l.fn.seat l.seat;
  more : KnowsMore l.fn.audit.known l.audit.known;
  applied : HasApplied l.seat.part l.applied;
  known : l.known ≡ length (known_of l.audit.known l.fn.seat.setup.number);
  others : KnowsSameBut l.fn.seat.setup.number l.fn.audit.known l.audit.known;
  reports : (n : ℕ) × AreReports g.M.Machine.next g.M.Machine.answers g.M.Machine.begin (length (known_of l.fn.audit.known l.fn.seat.setup.number)) l.fn.seat n l.known l.seat;
}

abbrev pub decreases-loop-known : goal.decreases-loop-known
decreases-loop-known g l = l.applied - l.known
