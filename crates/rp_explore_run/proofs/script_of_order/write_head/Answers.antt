-- One line more.
use Rattle.std.proofs.Common.{◌<◌, length, arith}
use Rattle.rp_explore_run.proofs.Heads.{head_more}
use Rattle.rp_explore_run.proofs.script_of_order.write_head.Goals as goal

pub loop-place-preserved : goal.loop-place-preserved
loop-place-preserved c =
    let within : c.loop-place.place < length c.args.source.now.lines.now = omega (arith, c.loop-place-test.true, c.min-place-end.ensures) in
    head_more c.args.source.now.rules.now c.args.source.now.lines.now c.loop-place.place _ within c.args.text.now.items c.loop-place.text.items c.write_head_line.new.text.items
    c.loop-place.invariant c.in_ok-write_head_line.ensures
