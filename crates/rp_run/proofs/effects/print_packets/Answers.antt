-- One message more, or the end.
use Rattle.std.proofs.Common.{◌≤◌, ◌<◌, length, arith}
use Rattle.rp_run.specs.Output.{names_of}
use Rattle.rp_run.proofs.Tracing.{messages_from, traced_more, traced_some, traced_all}
use Rattle.rp_output.proofs.Writing.{writes_failed, wrote_nothing}
use Rattle.rp_run.proofs.effects.print_packets.Goals as goal

pub loop-number-init : goal.loop-number-init
loop-number-init g c = record { above = omega arith; so_far = wrote_nothing _ (messages_from (names_of c.args.tasks.now) c.args.cluster.now.world.sent c.args.first) }

pub returns-in_err-print_message-clause-printed : goal.returns-in_err-print_message-clause-printed
returns-in_err-print_message-clause-printed g c =
    let one : 1 ≤ c.loop-number.number = omega (arith, c.requires, c.loop-number.invariant.above) in
    writes_failed _ _ (messages_from (names_of c.args.tasks.now) c.args.cluster.now.world.sent c.args.first) c.from_residual.result c.from_residual.ensures.0
    (traced_some (names_of c.args.tasks.now) c.args.cluster.now.world.sent c.args.first c.loop-number.number _ _ c.loop-number.invariant.so_far _ one c.in_err-print_message.ensures.printed)

pub loop-number-preserved : goal.loop-number-preserved
loop-number-preserved g c =
    let one : 1 ≤ c.loop-number.number = omega (arith, c.requires, c.loop-number.invariant.above) in
    record {
      above = omega (arith, c.loop-number.invariant.above);
      so_far = traced_more (names_of c.args.tasks.now) c.args.cluster.now.world.sent c.args.first c.loop-number.number _ _ c.loop-number.invariant.so_far _ one c.in_ok-print_message.ensures.printed;
    }

pub returns-clause-printed : goal.returns-clause-printed
returns-clause-printed g c =
    let past : length c.args.cluster.now.world.sent < c.loop-number.number = omega arith in
    traced_all (names_of c.args.tasks.now) c.args.cluster.now.world.sent c.args.first c.loop-number.number _ _ c.loop-number.invariant.so_far past
