-- The command is the one that was matched.
use Rattle.std.proofs.Common.{◌∙◌, ℕ, ◌++◌, sym, ap}
use Rattle.rp_run.specs.rp_model.specs.World.{World}
use Rattle.rp_chart.specs.ScriptHistory.{drawn_run, nodes_shown}
use Rattle.rp_chart.proofs.Charting.{charted_as}
use Rattle.rp_chart.proofs.walk.Walk.take.Goals as goal

pub returns-in-Take-clause-reached : goal.returns-in-Take-clause-reached
returns-in-Take-clause-reached g c = rw c.in-Take.is c.step.ensures.reached

pub returns-in-Lose-clause-reached : goal.returns-in-Lose-clause-reached
returns-in-Lose-clause-reached g c = rw c.in-Lose.is c.lose.ensures.reached

pub returns-in-Drain-clause-reached : goal.returns-in-Drain-clause-reached
returns-in-Drain-clause-reached g c = rw c.in-Drain.is c.drain.ensures.reached

pub returns-in-Take-clause-charted : goal.returns-in-Take-clause-charted
returns-in-Take-clause-charted g c = rw c.in-Take.is c.step.ensures.charted

pub returns-in-Lose-clause-charted : goal.returns-in-Lose-clause-charted
returns-in-Lose-clause-charted g c = rw c.in-Lose.is c.lose.ensures.charted

pub returns-in-Drain-clause-charted : goal.returns-in-Drain-clause-charted
returns-in-Drain-clause-charted g c = rw c.in-Drain.is c.drain.ensures.charted

pub returns-in-Show-clause-charted : goal.returns-in-Show-clause-charted
returns-in-Show-clause-charted g c =
    let m = g.M.Machine in
    let d = drawn_run m.next m.answers m.begin m.image c.args.self.now.cluster c.args.scene.now in
    rw c.in-Show.is
    (λ play happened follows charted.
    charted_as m.next m.answers m.begin c.show.new.self.cluster c.show.new.self.chart _ _ c.show.result
    (ap (λ (n : ℕ). happened ++ nodes_shown d c.args.self.now.cluster.world n) (sym c.requires.parts.config)
    ∙ ap (λ (w : World). happened ++ nodes_shown d w c.args.self.now.cluster.setup.config.nodes) follows.world_is)
    (c.show.ensures.charted happened charted))
