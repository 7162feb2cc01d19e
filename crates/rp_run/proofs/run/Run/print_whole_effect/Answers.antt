-- One text after another.
use Rattle.rp_output.proofs.Writing.{writes_failed, writes_after, writes_same, begins_longer, begins_after}
use Rattle.rp_run.proofs.Taken.{whole_is}
use Rattle.rp_run.proofs.run.Run.print_whole_effect.Goals as goal

pub returns-in_err-print_trace-clause-printed : goal.returns-in_err-print_trace-clause-printed
returns-in_err-print_trace-clause-printed g c =
    let self = c.args.self.now in
    let answer = c.from_residual.result in
    writes_same _ _ _ _ answer (whole_is c.args.options.now self.cluster.world c.args.event.now c.args.effect.now)
    (writes_failed _ _ _ answer c.from_residual.ensures.0 (begins_longer _ _ _ _ c.in_err-print_trace.ensures.printed))

pub returns-in_err-print_restart-clause-printed : goal.returns-in_err-print_restart-clause-printed
returns-in_err-print_restart-clause-printed g c =
    let self = c.args.self.now in
    let answer = c.from_residual-in_err-print_restart.result in
    writes_same _ _ _ _ answer (whole_is c.args.options.now self.cluster.world c.args.event.now c.args.effect.now)
    (writes_failed _ _ _ answer c.from_residual-in_err-print_restart.ensures.0
    (begins_after _ _ _ _ _ c.in_ok-print_trace.ensures.printed (begins_longer _ _ _ _ c.in_err-print_restart.ensures.printed)))

pub returns-in_err-print_dropped-clause-printed : goal.returns-in_err-print_dropped-clause-printed
returns-in_err-print_dropped-clause-printed g c =
    let self = c.args.self.now in
    let answer = c.from_residual-in_err-print_dropped.result in
    writes_same _ _ _ _ answer (whole_is c.args.options.now self.cluster.world c.args.event.now c.args.effect.now)
    (writes_failed _ _ _ answer c.from_residual-in_err-print_dropped.ensures.0
    (begins_after _ _ _ _ _ c.in_ok-print_trace.ensures.printed
    (begins_after _ _ _ _ _ c.in_ok-print_restart.ensures.printed (begins_longer _ _ _ _ c.in_err-print_dropped.ensures.printed))))

pub returns-clause-printed : goal.returns-clause-printed
returns-clause-printed g c =
    let self = c.args.self.now in
    let answer = c.print_taken.result in
    writes_same _ _ _ _ answer (whole_is c.args.options.now self.cluster.world c.args.event.now c.args.effect.now)
    (writes_after _ _ _ _ _ answer c.in_ok-print_trace.ensures.printed
    (writes_after _ _ _ _ _ answer c.in_ok-print_restart.ensures.printed
    (writes_after _ _ _ _ _ answer c.in_ok-print_dropped.ensures.printed c.print_taken.ensures.printed)))
