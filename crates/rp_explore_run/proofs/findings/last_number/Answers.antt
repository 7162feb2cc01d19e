-- One action more.
use Rattle.rp_explore_run.proofs.Numbers.{last_more}
use Rattle.rp_explore_run.proofs.findings.last_number.Goals as goal

pub loop-action-preserved : goal.loop-action-preserved
loop-action-preserved c =
    last_more c.args.task c.args.order.now c.loop-action.action-index c.action-item.result c.action-item.result c.loop-action-test.true c.action-item.is
    c.loop-action.last c.number_by.result c.greater-last.result c.loop-action.invariant c.number_by.ensures c.greater-last.ensures
