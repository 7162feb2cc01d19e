-- One lane more.
use Rattle.std.proofs.Common.{◌≡◌, ◌<◌, ◌∙◌, map, length, ap, arith}
use Rattle.rp_history.specs.Histories.{lane_text}
use Rattle.rp_script.specs.rp_run.specs.Output.{names_of}
use Rattle.rp_chart.specs.Charts.{task_lane}
use Rattle.rp_chart.proofs.Lanes.{names_count, next_node, next_task}
use Rattle.rp_chart.proofs.chart.lanes_of.Goals as goal

pub loop-index-preserved : goal.loop-index-preserved
loop-index-preserved c =
    let tasks = c.args.tasks.now in
    let names = names_of tasks in
    let index = c.loop-index.index in
    let within : index < length names = omega (arith, c.loop-index-test.true, c.len-index-end.ensures.len, names_count tasks.entries) in
    ap (map lane_text) c.in_ok-push.ensures.items
    ∙ next_task c.loop-index.lanes.items names index c.in_ok-task_lane.field-0 c.name_at.result.now within c.loop-index.invariant c.in_ok-task_lane.ensures c.name_at.ensures

pub loop-place-preserved : goal.loop-place-preserved
loop-place-preserved c =
    let front = map task_lane (names_of c.args.tasks.now) in
    ap (map lane_text) c.in_ok-push-2.ensures.items
    ∙ next_node c.loop-place.lanes.items front c.loop-place.place c.in_ok-node_lane.field-0 c.loop-place.invariant c.in_ok-node_lane.ensures
