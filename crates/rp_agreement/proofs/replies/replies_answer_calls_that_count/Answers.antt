-- The actions of the order are right, and the laws of the machine give the place.
use Rattle.std.proofs.Common.{suc}
use Rattle.rp_base.specs.declared.action.Action.{Action}
use Rattle.rp_base.specs.Sets.{Has}
use Rattle.rp_agreement.specs.Computed.{order_of}
use Rattle.rp_agreement.specs.Answered.{named, setting_for}
use Rattle.rp_agreement.proofs.TaskKeeping.{asked_in_order}
use Rattle.rp_agreement.proofs.replies.replies_answer_calls_that_count.Goals as goal

pub returns : goal.returns
returns g c =
    let m = g.M.Machine in
    λ config program node task sent kept t k answer is.
    let s = setting_for m.next m.answers m.begin config program in
    let order = order_of config.nodes sent in
    let right = λ (action : Action) (h : Has action order). (asked_in_order s node sent kept.sound action h).right in
    let stated = c.replies_follow_the_order.ensures.replies s node task sent kept t k answer is in
    let at = c.an_answered_call_has_one_place.ensures program order (named t (suc k)) answer right stated in
    record { place = at.0; takes_effect = at.1; is_answer = stated }
