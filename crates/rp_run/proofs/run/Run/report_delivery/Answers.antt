-- By what was reported.
use Rattle.std.proofs.Common.{subst}
use Rattle.rp_model.specs.declared.event.Event.TheVariants.{Node}
use Rattle.rp_model.specs.declared.event.Step.TheVariants.{Deliver}
use Rattle.rp_world.specs.rp_actors.specs.Steps.{IsStep}
use Rattle.rp_run.proofs.run.Run.report_delivery.Goals as goal

pub returns-in-Ok-clause-goes_on : goal.returns-in-Ok-clause-goes_on
returns-in-Ok-clause-goes_on g c = λ before parts reported.
    let m = g.M.Machine in
    let event = Node (Deliver c.args.message) in
    c.report_effect.ensures.goes_on before parts (subst (IsStep m.next m.answers m.begin before event c.args.self.now.cluster) c.in-Ok.is reported)

pub returns-in-Ok-clause-printed : goal.returns-in-Ok-clause-printed
returns-in-Ok-clause-printed g c = λ before play reported follows.
    let m = g.M.Machine in
    let event = Node (Deliver c.args.message) in
    c.report_effect.ensures.printed c.args.line before play (subst (IsStep m.next m.answers m.begin before event c.args.self.now.cluster) c.in-Ok.is reported) follows

pub returns-in-Err-clause-goes_on : goal.returns-in-Err-clause-goes_on
returns-in-Err-clause-goes_on g c = λ before parts reported.
    let m = g.M.Machine in
    let event = Node (Deliver c.args.message) in
    c.report_refusal.ensures.goes_on c.args.options.now.config.nodes before event parts c.requires.message
    (subst (IsStep m.next m.answers m.begin before event c.args.self.now.cluster) c.in-Err.is reported)

pub returns-in-Err-clause-printed : goal.returns-in-Err-clause-printed
returns-in-Err-clause-printed g c = λ before play reported follows.
    let m = g.M.Machine in
    let event = Node (Deliver c.args.message) in
    c.report_refusal.ensures.printed c.args.options.now before event play
    (subst (IsStep m.next m.answers m.begin before event c.args.self.now.cluster) c.in-Err.is reported) follows
