use Rattle.std.proofs.Common.{◌≡◌, Some, None, sym, ap, ◌∙◌}
use Rattle.rp_base.specs.declared.action.Action.TheVariants.{Call}
use Rattle.rp_model.specs.rp_machine.specs.Asked.{kept_reply}
use Rattle.rp_model.specs.Arrivals.{on_call, on_numbered}
use Rattle.rp_model.specs.Node.{counted_by, given_by}
use Rattle.rp_rules.specs.Inputs.{running_server}
use Rattle.rp_rules.proofs.arrivals.on_call.Goals as goal

pub returns-in-Some-clause-plan : goal.returns-in-Some-clause-plan
returns-in-Some-clause-plan g c =
    let node = running_server g.M.Machine.next g.M.Machine.answers c.args.server.now in
    let call = Call c.in-Call.task c.in-Call.number c.in-Call.object c.in-Call.operation c.in-Call.arg in
    let stated : kept_reply c.in-Call.task c.in-Call.number (counted_by node) (given_by node) ≡ Some c.in-Some.reply = sym c.kept_reply.ensures ∙ c.in-Some.is in
    sym (ap (on_call node) c.in-Call.is ∙ ap (on_numbered node c.in-Call.task c.in-Call.number call) stated)

pub returns-in-None-clause-plan : goal.returns-in-None-clause-plan
returns-in-None-clause-plan g c =
    let node = running_server g.M.Machine.next g.M.Machine.answers c.args.server.now in
    let call = Call c.in-Call.task c.in-Call.number c.in-Call.object c.in-Call.operation c.in-Call.arg in
    let stated : kept_reply c.in-Call.task c.in-Call.number (counted_by node) (given_by node) ≡ None = sym c.kept_reply.ensures ∙ c.in-None.is in
    c.on_unanswered.ensures.plan ∙ sym (ap (on_call node) c.in-Call.is ∙ ap (on_numbered node c.in-Call.task c.in-Call.number call) stated)
