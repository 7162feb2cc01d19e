-- Every history leads to a world that satisfies the invariant.
use Rattle.rp_agreement.specs.Answered.{setting_for}
use Rattle.rp_world.proofs.Sounding.{agreed, ordered}
use Rattle.rp_world.proofs.headline.histories_are_ordered.Goals as goal

pub returns-clause-agree : goal.returns-clause-agree
returns-clause-agree g c = λ config program now later are.
    let m = g.M.Machine in
    let s = setting_for m.next m.answers m.begin config program in
    let laws = c.histories_agree.ensures in
    agreed m.next m.answers m.image (m.begin program) now later (laws.applied s now later are) (laws.states s now later are)

pub returns-clause-ordered : goal.returns-clause-ordered
returns-clause-ordered g c = λ config program events world history.
    let m = g.M.Machine in
    let s = setting_for m.next m.answers m.begin config program in
    let describes = c.replies_follow_the_order.ensures in
    ordered s c.the_order_exists.ensures c.applied_lists_are_prefixes.ensures
    (c.replies_answer_calls_that_count.ensures config program) (c.calls_count_in_order.ensures config program) (c.only_made_calls_count.ensures config program) (c.a_call_has_one_place.ensures (m.begin program)) world (describes.histories s events world history)

pub returns-clause-noted : goal.returns-clause-noted
returns-clause-noted g c = λ config program events world history.
    let m = g.M.Machine in
    c.only_noted_actions_are_decided.ensures (setting_for m.next m.answers m.begin config program) events world history
