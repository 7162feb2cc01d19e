-- By the order of the history, which is one of what may happen.
use Rattle.std.proofs.Common.{suc}
use Rattle.rp_world.specs.rp_base.specs.Action.{IsRight}
use Rattle.rp_world.specs.rp_base.specs.Sets.{Has}
use Rattle.rp_world.specs.rp_base.specs.declared.action.Action.{Action}
use Rattle.rp_world.specs.rp_base.specs.Records.{applied_of}
use Rattle.rp_world.specs.rp_agreement.specs.Answered.{setting_for}
use Rattle.rp_world.specs.rp_agreement.specs.Worlds.{node_in}
use Rattle.rp_orders_world.proofs.Staying.{place_of, is_order, is_prefix_order}
use Rattle.rp_orders_world.proofs.histories.histories_stay_within.Goals as goal

pub returns-clause-states : goal.returns-clause-states
returns-clause-states g c = λ config program guards may found happened world right closed history within node part is.
    let m = g.M.Machine in
    let s = setting_for m.next m.answers m.begin config program in
    let asked = c.only_asked_actions_are_decided.ensures config.nodes (node_in world.nodes) world.sent (c.histories_are_sound.ensures s happened world history).sound in
    let ordered = c.histories_are_ordered.ensures.ordered config program happened world history in
    let noted = c.histories_are_ordered.ensures.noted config program happened world history in
    let all_right : (v : Action) → Has v ordered.order → IsRight v = λ v h. let at = place_of v ordered.order h in (asked (suc at.0) v (ordered.decided.decided at.0 v at.1)).right in
    let done = applied_of part.records in
    let prefix = ordered.applied node part is in
    let on = c.replay_goes_on.ensures in
    c.closed_orders_lead_to_all.ensures.states program guards may found right closed done
    (is_prefix_order m.next m.answers (m.begin program) config.nodes guards may happened world asked noted within ordered.order ordered.decided
    ordered.replies ordered.made (λ call one other a b. c.a_call_has_one_answer.ensures program ordered.order call one other (λ v h. all_right v h) a b) done prefix.0 prefix.1
    (on.from (m.begin program) done prefix.0) (on.on _ prefix.0))

pub returns-clause-replies : goal.returns-clause-replies
returns-clause-replies g c = λ config program guards may found happened world right closed history within task part answer is has.
    let m = g.M.Machine in
    let s = setting_for m.next m.answers m.begin config program in
    let asked = c.only_asked_actions_are_decided.ensures config.nodes (node_in world.nodes) world.sent (c.histories_are_sound.ensures s happened world history).sound in
    let ordered = c.histories_are_ordered.ensures.ordered config program happened world history in
    let noted = c.histories_are_ordered.ensures.noted config program happened world history in
    let all_right : (v : Action) → Has v ordered.order → IsRight v = λ v h. let at = place_of v ordered.order h in (asked (suc at.0) v (ordered.decided.decided at.0 v at.1)).right in
    let place = place_of answer part.replies has in
    (c.closed_orders_lead_to_all.ensures.replies program guards may found right closed answer).0 (
      ordered.order,
      is_order m.next m.answers (m.begin program) config.nodes guards may happened world asked noted within ordered.order ordered.decided
          ordered.replies ordered.made (λ call one other a b. c.a_call_has_one_answer.ensures program ordered.order call one other (λ v h. all_right v h) a b),
      (ordered.replies task place.0 part answer is place.1).is_answer.1,
    )

pub returns-clause-stuck : goal.returns-clause-stuck
returns-clause-stuck g c = λ config program guards may found happened world right closed history within task node part is_task is stuck.
    let m = g.M.Machine in
    let s = setting_for m.next m.answers m.begin config program in
    let asked = c.only_asked_actions_are_decided.ensures config.nodes (node_in world.nodes) world.sent (c.histories_are_sound.ensures s happened world history).sound in
    let ordered = c.histories_are_ordered.ensures.ordered config program happened world history in
    let noted = c.histories_are_ordered.ensures.noted config program happened world history in
    let all_right : (v : Action) → Has v ordered.order → IsRight v = λ v h. let at = place_of v ordered.order h in (asked (suc at.0) v (ordered.decided.decided at.0 v at.1)).right in
    let done = applied_of part.records in
    let prefix = ordered.applied node part is in
    let on = c.replay_goes_on.ensures in
    c.closed_orders_lead_to_all.ensures.stuck program guards may found right closed task done is_task
    (is_prefix_order m.next m.answers (m.begin program) config.nodes guards may happened world asked noted within ordered.order ordered.decided
    ordered.replies ordered.made (λ call one other a b. c.a_call_has_one_answer.ensures program ordered.order call one other (λ v h. all_right v h) a b) done prefix.0 prefix.1
    (on.from (m.begin program) done prefix.0) (on.on _ prefix.0)) stuck
