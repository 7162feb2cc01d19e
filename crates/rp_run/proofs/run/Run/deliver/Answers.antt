-- By whether there was something to report.
use Rattle.std.proofs.Common.{Result, Ok, ap, ◌∙◌}
use Rattle.rp_base.specs.declared.fault.Fault.{Fault}
use Rattle.rp_model.specs.Events.{event_of}
use Rattle.rp_model.specs.declared.event.Event.TheVariants.{Node}
use Rattle.rp_model.specs.declared.event.Step.TheVariants.{Deliver}
use Rattle.rp_output.proofs.Writing.{begins_nothing}
use Rattle.rp_world.specs.rp_actors.specs.Deliveries.{only_sent}
use Rattle.rp_world.specs.rp_actors.specs.Steps.{cluster_setting}
use Rattle.rp_run.specs.Output.{event_said}
use Rattle.rp_run.specs.Runs.{run_setting}
use Rattle.rp_run.proofs.GoingOn.{numbered_from_one, happened_on, reported_step, unreported_step, settled_one, sent_unprinted}
use Rattle.rp_run.proofs.RunParts.{happened, says_failed}
use Rattle.rp_run.proofs.run.Run.deliver.Goals as goal

pub report_delivery-requires-clause-first : goal.report_delivery-requires-clause-first
report_delivery-requires-clause-first g c =
    let m = g.M.Machine in
    let old = c.args.self.now.cluster in
    let by = c.step_by_delivery in
    let event = Node (Deliver c.args.message) in
    let step = reported_step m.next m.answers m.begin old by.new.self event by.result by.new.reported by.ensures.step c.if-step_by_delivery.true in
    numbered_from_one (cluster_setting m.next m.answers m.begin old) old.world by.new.self.world (event_of event) by.new.reported step.world

pub returns-then-step_by_delivery : goal.returns-then-step_by_delivery
returns-then-step_by_delivery g c =
    let m = g.M.Machine in
    let old = c.args.self.now.cluster in
    let by = c.step_by_delivery in
    let step = reported_step m.next m.answers m.begin old by.new.self (Node (Deliver c.args.message)) by.result by.new.reported by.ensures.step c.if-step_by_delivery.true in
    let on = c.report_delivery.ensures.goes_on old c.requires.parts step in
    record {
      parts = on.parts;
      setup = ap (λ k. k.setup) c.report_delivery.ensures.cluster ∙ step.setup;
      counts = on.counts;
      printed = λ play follows. c.report_delivery.ensures.printed old play step follows;
      fault = on.fault;
    }

pub returns : goal.returns
returns g c =
    let m = g.M.Machine in
    let options = c.args.options.now in
    let old = c.args.self.now.cluster in
    let by = c.step_by_delivery in
    let new = by.new.self in
    let event = Node (Deliver c.args.message) in
    let effect = only_sent old.world new.world in
    let answer : Result Unit Fault = Ok tt in
    let step = unreported_step m.next m.answers m.begin old new event by.result by.new.reported by.ensures.step c.if-step_by_delivery.false in
    let on = happened_on m.next m.answers m.begin options.config.nodes old new event c.requires.parts c.requires.message effect answer step tt in
    let s = run_setting m.next m.answers m.begin m.image old options in
    record {
      parts = on.parts;
      setup = step.setup;
      counts = on.counts;
      printed = λ play follows.
          happened s c.args.line play event old.world c.args.self.now.settled follows new.world c.settle.new.self effect _ _ answer
          step.world (c.worlds_grow.ensures s.setting old.world (event_of event) step.world.transition step.world.resulted)
          (settled_one c.args.self.now.settled c.settle.new.self c.args.message c.in_ok-settle.ensures.ok)
          (sent_unprinted options old.world new.world c.args.message _ c.if-options.false);
      fault = on.fault;
    }

pub returns-in_err-settle-clause-printed : goal.returns-in_err-settle-clause-printed
returns-in_err-settle-clause-printed g c = λ play follows.
    let m = g.M.Machine in
    let s = run_setting m.next m.answers m.begin m.image c.args.self.now.cluster c.args.options.now in
    says_failed _ _ _ _ (event_said s c.args.line play (Node (Deliver c.args.message))) c.from_residual.result c.from_residual.ensures.0 (begins_nothing _ _)

pub returns-in_err-settle-clause-setup : goal.returns-in_err-settle-clause-setup
returns-in_err-settle-clause-setup g c =
    let m = g.M.Machine in
    let by = c.step_by_delivery in
    (unreported_step m.next m.answers m.begin c.args.self.now.cluster by.new.self (Node (Deliver c.args.message)) by.result by.new.reported by.ensures.step c.if-step_by_delivery.false).setup
