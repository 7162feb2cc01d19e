-- One rule more.
use Rattle.std.proofs.Common.{refl}
use Rattle.std.specs.Arc.{arc_value}
use Rattle.rp_script.specs.rp_object.specs.State.{first_state}
use Rattle.rp_script.specs.rp_object.specs.Step.{objects_answers, objects_next}
use Rattle.rp_explore_run.specs.Judging.{IsJudged, keeps}
use Rattle.rp_explore_run.proofs.Judging.{zip_more}
use Rattle.rp_explore_run.proofs.judge.judge_objects.Goals as goal

pub loop-placed-preserved : goal.loop-placed-preserved
loop-placed-preserved c =
    let judges = IsJudged objects_next objects_answers (first_state (arc_value c.args.program.now.declarations)) keeps c.args.explored.now in
    let placed = c.placed-item.result in
    zip_more judges c.args.rules.now c.loop-placed.judged.items c.push.new.self.items c.loop-placed.placed-index placed placed _ c.loop-placed-test.true c.placed-item.is
    c.loop-placed.invariant (record { line = refl; by = c.in_ok-broken.ensures }) c.in_ok-push.ensures.items
