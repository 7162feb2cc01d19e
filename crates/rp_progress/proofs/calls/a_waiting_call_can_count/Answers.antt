-- A bare majority starts again, the task asks the leader, and the leader leads until the call counts.
use Rattle.std.proofs.Common.{length}
use Rattle.rp_machine.proofs.Applying.{accounted}
use Rattle.rp_agreement.specs.Answered.{setting_for, task_in}
use Rattle.rp_agreement.specs.Worlds.{node_in}
use Rattle.rp_progress.proofs.Laws.{last_reply, waiting_served}
use Rattle.rp_progress.proofs.calls.a_waiting_call_can_count.Goals as goal

pub returns : goal.returns
returns g c = λ config program events w quorum leader i round t replies call history is position ballots has.
    let m = g.M.Machine in
    let laws = c.laws.ensures in
    let s = setting_for m.next m.answers m.begin config program in
    waiting_served s history.config
    (record {
      known = λ xs right call stated. (accounted m.next m.answers m.waiting m.begin m.runs laws.none_waits laws.starts laws.keeps laws.accounts program xs right).known call stated;
      one = λ xs call a b right is_a is_b. c.a_call_has_one_answer.ensures program xs call a b right is_a is_b;
    })
    t replies
    (λ u kept answer got. c.replies_answer_calls_that_count.ensures config program (node_in u.nodes) (task_in u.tasks) u.sent kept.kept t (length replies) answer (last_reply u t replies answer got))
    w quorum leader (c.replies_follow_the_order.ensures.histories s events w history) is i round position ballots call has
