use Rattle.std.proofs.Common.{arith}
use Rattle.rp_codec.specs.Reading.{actions_at}
use Rattle.rp_codec.proofs.ListReading.{one_more_read, fault_read, all_read, no_fault, same_list}
use Rattle.rp_codec.proofs.report_text.list_actions.Goals as goal

pub unreachable-requires : goal.unreachable-requires
unreachable-requires c =
    no_fault (actions_at c.args.version c.args.count c.args.reader) c.in-Err.field-0 (fault_read c.args.version c.args.count c.args.reader c.loop.counter c.loop.actions.items c.loop.reader c.in-Err.field-0 c.loop.invariant.read (omega arith) c.in-Err.ensures) c.requires

pub loop-preserved : goal.loop-preserved
loop-preserved c = record {
  read = rw c.push_reserved.ensures.items (one_more_read c.args.version c.args.count c.args.reader c.loop.counter c.loop.actions.items c.loop.reader c.in-Ok.action c.read_action.new.reader c.loop.invariant.read (omega arith) c.in-Ok.ensures);
  filled = omega arith;
  room = omega arith;
}

pub returns : goal.returns
returns c = λ actions after e.
    rw c.from_vec.ensures (same_list (actions_at c.args.version c.args.count c.args.reader) c.loop.actions.items c.loop.reader (all_read c.args.version c.args.count c.args.reader c.loop.counter c.loop.actions.items c.loop.reader c.loop.invariant.read (omega arith)) actions after e)
