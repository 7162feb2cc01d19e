use Rattle.std.proofs.Common.{List, ℕ, ap}
use Rattle.rp_output.specs.Printed.{reply_line_of}
use Rattle.rp_output.specs.FaultMessage.{with_line_feed}
use Rattle.rp_output.proofs.Writing.{writes_same}
use Rattle.rp_run.proofs.effects.print_reply.Goals as goal

pub returns-clause-printed : goal.returns-clause-printed
returns-clause-printed g c =
    writes_same _ _ _ _ c.print_reply_line.result (ap (λ (l : List ℕ). with_line_feed (reply_line_of l c.args.answer.number c.args.answer.reply)) c.task_name.ensures) c.print_reply_line.ensures.printed
