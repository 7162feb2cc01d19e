-- One rule more.
use Rattle.std.proofs.Common.{ℕ, Option, sym, refl, subst}
use Rattle.rp_explore_run.specs.Judging.{IsJudged, IsJudgedBy, no_truths}
use Rattle.rp_explore_run.proofs.Judging.{free_judged, zip_more}
use Rattle.rp_explore_run.proofs.judge.judge_tally.Goals as goal

pub loop-placed-preserved : goal.loop-placed-preserved
loop-placed-preserved g c =
    let next = g.M.Machine.next in
    let answers = g.M.Machine.answers in
    let begin = g.M.Machine.begin c.args.program.now in
    let e = c.args.explored.now in
    let placed = c.placed-item.result in
    zip_more (IsJudged next answers begin no_truths e) c.args.rules.now c.loop-placed.judged.items c.push.new.self.items c.loop-placed.placed-index placed placed _ c.loop-placed-test.true c.placed-item.is
    c.loop-placed.invariant
    (record { line = refl; by = subst (λ (broken : Option ℕ). IsJudgedBy next answers begin no_truths e placed.rule broken) (sym c.free_broken_by.ensures) (free_judged next answers begin e placed.rule) })
    c.in_ok-push.ensures.items
