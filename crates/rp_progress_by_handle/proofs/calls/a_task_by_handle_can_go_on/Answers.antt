-- The quorum's nodes are opened again, the call is made, and moves make what a history can go on with.
use Rattle.std.proofs.Common.{ℕ, suc, [], ◌∷◌, sym, subst}
use Rattle.rp_base.specs.Action.{IsRight}
use Rattle.rp_base.specs.declared.action.Action.TheVariants.{Call}
use Rattle.rp_model.specs.Events.{Submit}
use Rattle.rp_machine.proofs.Applying.{accounted}
use Rattle.rp_agreement.specs.Answered.{setting_for}
use Rattle.rp_progress_by_handle.proofs.Laws.{idle_one}
use Rattle.rp_progress_by_handle.proofs.calls.a_task_by_handle_can_go_on.Goals as goal

pub returns : goal.returns
returns g c = λ config program moves now after quorum leader i round t object operation arg records calls replies right all is on position ballots idle rights lost.
    let m = g.M.Machine in
    let laws = c.laws.ensures in
    let s = setting_for m.next m.answers m.begin config program in
    idle_one s m.image quorum leader t is (c.histories_keep_ranges.ensures config program) (c.replies_follow_the_order.ensures.histories s)
    (λ xs each named stated. (accounted m.next m.answers m.waiting m.begin m.runs laws.none_waits laws.starts laws.keeps laws.accounts program xs each).known named stated)
    c.node_requests_are_read_back.ensures.steps c.task_requests_are_read_back.ensures moves now right all records on after lost i round
    (Submit t leader object operation arg ∷ []) position ballots calls replies idle
    (λ w events answers made history left more has. c.a_task_can_go_on.ensures config program events w quorum leader i round t object operation arg answers history is left more has
    (subst (λ (n : ℕ). IsRight (Call t (suc n) object operation arg)) (sym made) rights))
