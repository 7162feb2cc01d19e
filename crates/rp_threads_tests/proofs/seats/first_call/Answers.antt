-- The task sent its call.
use Rattle.std.proofs.Common.{Result, subst}
use Rattle.std.specs.Prelude.{IfOk}
use Rattle.rp_threads.specs.rp_base.specs.declared.fault.Fault.{Fault}
use Rattle.rp_threads.specs.rp_replica.specs.declared.sent.Sent.{Sent}
use Rattle.rp_threads.specs.rp_board.specs.Seats.{IsSentText}
use Rattle.rp_threads_tests.proofs.Asking.{sent_if}
use Rattle.rp_threads_tests.proofs.seats.first_call.Goals as goal

pub returns : goal.returns
returns g c =
    let task = c.call-sent.new.self in
    subst (λ (r : Result Sent Fault). IfOk r (λ sent. IsSentText task.part sent.bytes.items)) c.expect.ensures (sent_if c.args.task.now task _ _ _ _ c.call-sent.result c.call-sent.ensures.ok)
