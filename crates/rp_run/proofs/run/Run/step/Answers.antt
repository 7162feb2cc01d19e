-- By what was answered.
use Rattle.std.proofs.Common.{Result, Ok, ap, subst, ◌∙◌}
use Rattle.rp_base.specs.declared.fault.Fault.{Fault}
use Rattle.rp_model.specs.Events.{event_of}
use Rattle.rp_world.specs.rp_actors.specs.Going.{stated}
use Rattle.rp_world.specs.rp_actors.specs.Steps.{IsStep, cluster_setting}
use Rattle.rp_run.proofs.GoingOn.{numbered_from_one}
use Rattle.rp_run.proofs.run.Run.step.Goals as goal

pub report_effect-requires-clause-first : goal.report_effect-requires-clause-first
report_effect-requires-clause-first g c =
    let m = g.M.Machine in
    let old = c.args.self.now.cluster in
    let by = c.step_into in
    let step = subst (λ (r : Result Unit Fault). IsStep m.next m.answers m.begin old c.args.event.now by.new.self (stated r by.new.effect)) c.in-Ok.is by.ensures.step in
    numbered_from_one (cluster_setting m.next m.answers m.begin old) old.world by.new.self.world (event_of c.args.event.now) (Ok by.new.effect) step.world

pub returns-in-Ok : goal.returns-in-Ok
returns-in-Ok g c =
    let m = g.M.Machine in
    let old = c.args.self.now.cluster in
    let by = c.step_into in
    let step = subst (λ (r : Result Unit Fault). IsStep m.next m.answers m.begin old c.args.event.now by.new.self (stated r by.new.effect)) c.in-Ok.is by.ensures.step in
    let on = c.report_effect.ensures.goes_on old c.requires.parts step in
    record {
      parts = on.parts;
      setup = ap (λ k. k.setup) c.report_effect.ensures.cluster ∙ step.setup;
      counts = on.counts;
      printed = λ play follows. c.report_effect.ensures.printed c.args.line old play step follows;
      fault = on.fault;
    }

pub returns-in-Err : goal.returns-in-Err
returns-in-Err g c =
    let m = g.M.Machine in
    let old = c.args.self.now.cluster in
    let by = c.step_into in
    let step = subst (λ (r : Result Unit Fault). IsStep m.next m.answers m.begin old c.args.event.now by.new.self (stated r by.new.effect)) c.in-Err.is by.ensures.step in
    let on = c.report_refusal.ensures.goes_on c.args.options.now.config.nodes old c.args.event.now c.requires.parts c.requires.event step in
    record {
      parts = on.parts;
      setup = step.setup;
      counts = on.counts;
      printed = λ play follows. c.report_refusal.ensures.printed c.args.options.now old c.args.event.now play step follows;
      fault = on.fault;
    }
