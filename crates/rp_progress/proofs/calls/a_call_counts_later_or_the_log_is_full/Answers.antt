-- By the schedule; and what is decided is in the log.
use Rattle.std.proofs.Common.{List, ◌++◌, length, subst}
use Rattle.rp_base.specs.declared.action.Action.{Action}
use Rattle.rp_machine.specs.Places.{IsPlace}
use Rattle.rp_machine.proofs.Applying.{accounted}
use Rattle.rp_agreement.specs.Answered.{named, setting_for, task_in}
use Rattle.rp_agreement.specs.Worlds.{node_in}
use Rattle.rp_progress.proofs.Going.{is_history}
use Rattle.rp_progress.proofs.Laws.{last_reply, waiting_either, full_order}
use Rattle.rp_progress.proofs.calls.a_call_counts_later_or_the_log_is_full.Goals as goal

pub returns-clause-either : goal.returns-clause-either
returns-clause-either g c = λ config program events w quorum leader round t replies call history is ballots has.
    let m = g.M.Machine in
    let laws = c.laws.ensures in
    let s = setting_for m.next m.answers m.begin config program in
    waiting_either s history.config
    (record {
      known = λ xs right call stated. (accounted m.next m.answers m.waiting m.begin m.runs laws.none_waits laws.starts laws.keeps laws.accounts program xs right).known call stated;
      one = λ xs call a b right is_a is_b. c.a_call_has_one_answer.ensures program xs call a b right is_a is_b;
    })
    t replies
    (λ u kept answer got. c.replies_answer_calls_that_count.ensures config program (node_in u.nodes) (task_in u.tasks) u.sent kept.kept t (length replies) answer (last_reply u t replies answer got))
    w quorum leader (c.replies_follow_the_order.ensures.histories s events w history) is round
    (λ more u goes. c.records_stay_in_the_log.ensures.records s (events ++ more) u (is_history s quorum t (length w.sent) events more w u history goes)) ballots call has

pub returns-clause-ends : goal.returns-clause-ends
returns-clause-ends g c = λ s now later are full.
    full_order s.config.nodes s.config.max_positions now later (c.histories_are_sound.ensures s (are.events ++ are.more) later are.after) (c.records_stay_in_the_log.ensures.records s (are.events ++ are.more) later are.after)
    full (c.histories_agree.ensures.order s now later are)

pub returns-clause-full : goal.returns-clause-full
returns-clause-full g c = λ s now later are full t n none place at.
    let same = full_order s.config.nodes s.config.max_positions now later (c.histories_are_sound.ensures s (are.events ++ are.more) later are.after)
    (c.records_stay_in_the_log.ensures.records s (are.events ++ are.more) later are.after) full (c.histories_agree.ensures.order s now later are) in
    none place (subst (λ (order : List Action). IsPlace s.next s.answers s.begin order (named t n) place) same at)
