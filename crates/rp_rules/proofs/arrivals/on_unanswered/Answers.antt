use Rattle.std.proofs.Common.{ap, ◌∙◌}
use Rattle.rp_model.specs.Arrivals.{adds_pending}
use Rattle.rp_rules.specs.Inputs.{running_server}
use Rattle.rp_server.proofs.Applied.{call_past, call_new}
use Rattle.rp_rules.proofs.arrivals.on_unanswered.Goals as goal

pub returns-then-number-last_number-clause-plan : goal.returns-then-number-last_number-clause-plan
returns-then-number-last_number-clause-plan g c =
    let node = running_server g.M.Machine.next g.M.Machine.answers c.args.server.now in
    call_past node c.args.task c.args.number c.args.call c.last_number.result c.last_number.ensures c.if-number-last_number.true

pub returns-clause-plan : goal.returns-clause-plan
returns-clause-plan g c =
    let h = c.args.server.now in
    let node = running_server g.M.Machine.next g.M.Machine.answers h in
    c.adds.ensures.plan ∙ ap (adds_pending h.running.pending) c.new.ensures ∙ call_new node c.args.task c.args.number c.args.call c.last_number.result c.last_number.ensures c.if-number-last_number.false
