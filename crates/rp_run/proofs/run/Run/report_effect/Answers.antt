-- Its messages are settled, or memory ran out.
use Rattle.rp_model.specs.Events.{event_of}
use Rattle.rp_output.proofs.Writing.{begins_nothing}
use Rattle.rp_run.specs.Output.{event_said}
use Rattle.rp_run.specs.Runs.{run_setting}
use Rattle.rp_run.proofs.GoingOn.{happened_on}
use Rattle.rp_run.proofs.RunParts.{happened, says_failed}
use Rattle.rp_run.proofs.Taken.{settled_alike}
use Rattle.rp_run.proofs.run.Run.report_effect.Goals as goal

pub returns-clause-goes_on : goal.returns-clause-goes_on
returns-clause-goes_on g c = λ before parts step.
    let m = g.M.Machine in
    happened_on m.next m.answers m.begin c.args.options.now.config.nodes before c.args.self.now.cluster c.args.event.now parts c.requires.event c.args.effect.now c.print_effect.result step c.print_effect.ensures.fault

pub returns-clause-printed : goal.returns-clause-printed
returns-clause-printed g c = λ line before play step follows.
    let m = g.M.Machine in
    let cluster = c.args.self.now.cluster in
    let event = c.args.event.now in
    let s = run_setting m.next m.answers m.begin m.image before c.args.options.now in
    happened s line play event before.world c.args.self.now.settled follows cluster.world c.settle_any.new.self c.args.effect.now _ _ c.print_effect.result
    step.world (c.worlds_grow.ensures s.setting before.world (event_of event) step.world.transition step.world.resulted)
    (settled_alike c.args.self.now.settled c.settle_any.new.self _ _ c.settled_by.ensures.value c.in_ok-settle_any.ensures.ok) c.print_effect.ensures.printed

pub returns-in_err-settle_any-clause-printed : goal.returns-in_err-settle_any-clause-printed
returns-in_err-settle_any-clause-printed g c = λ line before play step follows.
    let m = g.M.Machine in
    let s = run_setting m.next m.answers m.begin m.image before c.args.options.now in
    says_failed _ _ _ _ (event_said s line play c.args.event.now) c.from_residual.result c.from_residual.ensures.0 (begins_nothing _ _)
