-- One outcome more.
use Rattle.std.proofs.Common.{string_bytes, map}
use Rattle.indexmap.specs.IndexMap.{keys}
use Rattle.rp_explore_run.proofs.Outcomes.{outcomes_more}
use Rattle.rp_explore_run.proofs.report.write_outcomes.Goals as goal

pub loop-place-preserved : goal.loop-place-preserved
loop-place-preserved g c =
    outcomes_more (map string_bytes (keys c.args.tasks.now)) c.args.outcomes.now c.loop-place.place c.index-outcomes-place.result c.index-outcomes-place.result c.loop-place-test.true c.index-outcomes-place.is
    (string_bytes c.args.text.now) (string_bytes c.loop-place.text) (string_bytes c.write_outcome.new.text) c.loop-place.invariant c.in_ok-write_outcome.ensures
