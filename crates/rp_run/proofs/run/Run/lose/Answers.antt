use Rattle.std.proofs.Common.{◌<◌, length, inl, inr, arith}
use Rattle.std.specs.Prelude.{◌⊎◌}
use Rattle.rp_run.proofs.RunParts.{some_lost, was_lost, was_not_lost}
use Rattle.rp_run.proofs.run.Run.lose.Goals as goal
use Rattle.rp_run.proofs.run.Run.lose.Goals.{then-first-sent-via-then-first-sent, then-first-sent-via-else-first-sent+then-last-sent}

pub returns-then-first-sent-clause-printed : goal.returns-then-first-sent-clause-printed
returns-then-first-sent-clause-printed g c =
    let world = c.args.self.now.cluster.world in
    let value = c.messages-sent.ensures.value in
    let above : (length world.sent < c.args.first) ⊎ (length world.sent < c.args.last) = elim c.then-first-sent.branch [
      | then-first-sent-via-then-first-sent w ↦ inl (omega (arith, value, w.if-first-sent.true))
      | then-first-sent-via-else-first-sent+then-last-sent w ↦ inr (omega (arith, value, w.if-last-sent.true))
    ] in
    λ play follows. was_not_lost c.args.line c.args.first c.args.last play world c.args.self.now.settled follows _ _ c.print.result above c.print.ensures.printed

pub returns-in_err-settle_all-clause-printed : goal.returns-in_err-settle_all-clause-printed
returns-in_err-settle_all-clause-printed g c =
    λ play follows. some_lost c.args.line c.args.first c.args.last play c.args.self.now.cluster.world c.args.self.now.settled follows c.settle_all.new.self _ c.from_residual.result c.from_residual.ensures.0

pub returns-clause-printed : goal.returns-clause-printed
returns-clause-printed g c =
    let value = c.messages-sent.ensures.value in
    λ play follows. was_lost c.args.line c.args.first c.args.last play c.args.self.now.cluster.world c.args.self.now.settled follows c.settle_all.new.self _
    (omega (arith, value, c.if-first-sent.false)) (omega (arith, value, c.if-last-sent.false)) c.in_ok-settle_all.ensures.ok
