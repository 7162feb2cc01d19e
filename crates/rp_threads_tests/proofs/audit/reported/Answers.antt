-- The node sent what it reported.
use Rattle.std.proofs.Common.{Result, refl, subst}
use Rattle.std.specs.Prelude.{IfOk}
use Rattle.rp_threads.specs.rp_base.specs.declared.fault.Fault.{Fault}
use Rattle.rp_threads.specs.rp_replica.specs.declared.sent.Sent.{Sent}
use Rattle.rp_threads.specs.rp_boxes.specs.NodeSeats.{IsReport}
use Rattle.rp_threads_tests.proofs.Asking.{reported_is_sent}
use Rattle.rp_threads_tests.proofs.audit.reported.Goals as goal

pub put-requires : goal.put-requires
put-requires g c =
    let first = c.expect-first.result in
    let old = c.expect-seat.result.now in
    let new = c.report.new.self in
    let report = subst (λ (r : Result Sent Fault). IfOk r (IsReport first old new)) c.expect-report.ensures c.report.ensures.ok in
    record { sent = reported_is_sent first c.expect-report.result.bytes.items old new c.expect-report.result report refl }
