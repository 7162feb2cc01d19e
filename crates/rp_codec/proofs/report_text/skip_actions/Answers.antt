use Rattle.std.proofs.Common.{[], ◌∷◌, ◌++◌, rules, arith}
use Rattle.rp_codec.proofs.ListReading.{none_read, one_more_read, fault_read, all_read}
use Rattle.rp_codec.proofs.report_text.skip_actions.Goals as goal

pub loop-init : goal.loop-init
loop-init c = ([], none_read c.args.version c.args.count c.args.reader.now)

pub returns-in_err-read_action : goal.returns-in_err-read_action
returns-in_err-read_action c =
    let stopped = fault_read c.args.version c.args.count c.args.reader.now c.loop.counter c.loop.invariant.0 c.loop.reader c.in_err-read_action.field-0.0 c.loop.invariant.1 (omega arith) c.in_err-read_action.ensures in
    search rules

pub loop-preserved : goal.loop-preserved
loop-preserved c =
    (c.loop.invariant.0 ++ c.in_ok-read_action.field-0 ∷ [], one_more_read c.args.version c.args.count c.args.reader.now c.loop.counter c.loop.invariant.0 c.loop.reader c.in_ok-read_action.field-0 c.read_action.new.reader c.loop.invariant.1 (omega arith) c.in_ok-read_action.ensures)

pub returns : goal.returns
returns c = (c.loop.invariant.0, all_read c.args.version c.args.count c.args.reader.now c.loop.counter c.loop.invariant.0 c.loop.reader c.loop.invariant.1 (omega arith))
