-- The replies, the nodes after them, and at the end that the logs agree.
use Rattle.std.proofs.Common.{◌++◌}
use Rattle.rp_live_run.specs.LiveOutput.{replies_text, applied_text, agreed_text}
use Rattle.rp_run.specs.Output.{names_of}
use Rattle.rp_output.proofs.Writing.{writes_failed, writes_after, begins_longer, begins_after}
use Rattle.rp_live_run.proofs.live_output.print_outcome.Goals as goal

pub returns-in_err-print_replies-clause-printed : goal.returns-in_err-print_replies-clause-printed
returns-in_err-print_replies-clause-printed g c =
    let outcome = c.args.outcome.now in
    let rest = applied_text 1 outcome.applied.items ++ agreed_text outcome.agree in
    let printed = rw c.as_slice.ensures.value at c.in_err-print_replies.ensures.printed in
    writes_failed _ _ _ c.from_residual.result c.from_residual.ensures.0
    (begins_longer _ _ (replies_text (names_of c.args.tasks.now) outcome.replies.items) rest printed)

pub returns-in_err-print_applied-clause-printed : goal.returns-in_err-print_applied-clause-printed
returns-in_err-print_applied-clause-printed g c =
    let outcome = c.args.outcome.now in
    let first = rw c.as_slice.ensures.value at c.in_ok-print_replies.ensures.printed in
    let printed = rw c.as_slice-2.ensures.value at c.in_err-print_applied.ensures.printed in
    writes_failed _ _ _ c.from_residual-in_err-print_applied.result c.from_residual-in_err-print_applied.ensures.0
    (begins_after _ _ _ (replies_text (names_of c.args.tasks.now) outcome.replies.items) _ first
    (begins_longer _ _ (applied_text 1 outcome.applied.items) (agreed_text outcome.agree) printed))

pub returns-clause-printed : goal.returns-clause-printed
returns-clause-printed g c =
    let outcome = c.args.outcome.now in
    let first = rw c.as_slice.ensures.value at c.in_ok-print_replies.ensures.printed in
    let second = rw c.as_slice-2.ensures.value at c.in_ok-print_applied.ensures.printed in
    writes_after _ _ _ (replies_text (names_of c.args.tasks.now) outcome.replies.items) _ c.print_agreed.result first
    (writes_after _ _ _ (applied_text 1 outcome.applied.items) (agreed_text outcome.agree) c.print_agreed.result second c.print_agreed.ensures.printed)
