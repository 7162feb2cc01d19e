-- The command is the one that was matched.
use Rattle.rp_run.specs.Runs.{run_setting}
use Rattle.rp_run.proofs.RunParts.{says_shown}
use Rattle.rp_run.proofs.run.Run.take.Goals as goal

pub returns-in-Take-clause-printed : goal.returns-in-Take-clause-printed
returns-in-Take-clause-printed g c = rw c.in-Take.is c.step.ensures.printed

pub returns-in-Lose-clause-printed : goal.returns-in-Lose-clause-printed
returns-in-Lose-clause-printed g c = rw c.in-Lose.is c.lose.ensures.printed

pub returns-in-Drain-clause-printed : goal.returns-in-Drain-clause-printed
returns-in-Drain-clause-printed g c = rw c.in-Drain.is c.drain.ensures.printed

pub returns-in-Show-clause-printed : goal.returns-in-Show-clause-printed
returns-in-Show-clause-printed g c =
    let m = g.M.Machine in
    let cluster = c.args.self.now.cluster in
    let s = run_setting m.next m.answers m.begin m.image cluster c.args.options.now in
    let number = c.args.line.now.number in
    rw c.in-Show.is (λ play follows. says_shown s c.args.options.now.most number play cluster.world c.args.self.now.settled _ _ c.args.options.now.config.nodes
    c.show.result c.requires.parts.config follows c.show.ensures.shown)
