-- No call is answered twice, by the laws of the machine.
use Rattle.rp_base.specs.declared.action.Action.{Action}
use Rattle.rp_base.specs.Sets.{Has}
use Rattle.rp_agreement.specs.Computed.{order_of}
use Rattle.rp_agreement.specs.Answered.{setting_for}
use Rattle.rp_agreement.proofs.TaskKeeping.{asked_in_order}
use Rattle.rp_agreement.proofs.replies.answers_are_one.Goals as goal

pub returns : goal.returns
returns g c =
    let m = g.M.Machine in
    λ config program node task sent kept call one other is is_other.
    let order = order_of config.nodes sent in
    let right = λ (action : Action) (h : Has action order). (asked_in_order (setting_for m.next m.answers m.begin config program) node sent kept.sound action h).right in
    c.a_call_has_one_answer.ensures program order call one other right is is_other
