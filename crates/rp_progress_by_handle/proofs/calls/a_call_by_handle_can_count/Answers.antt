-- The quorum's nodes are opened again, and moves make what a history can go on with.
use Rattle.rp_machine.proofs.Applying.{accounted}
use Rattle.rp_agreement.specs.Answered.{setting_for}
use Rattle.rp_progress_by_handle.proofs.Laws.{waiting}
use Rattle.rp_progress_by_handle.proofs.calls.a_call_by_handle_can_count.Goals as goal

pub returns : goal.returns
returns g c = λ config program moves now after quorum leader i round t records calls replies call right all is on position ballots task outstanding lost.
    let m = g.M.Machine in
    let laws = c.laws.ensures in
    let s = setting_for m.next m.answers m.begin config program in
    waiting s m.image quorum leader t is (c.histories_keep_ranges.ensures config program) (c.replies_follow_the_order.ensures.histories s)
    (λ xs rights named stated. (accounted m.next m.answers m.waiting m.begin m.runs laws.none_waits laws.starts laws.keeps laws.accounts program xs rights).known named stated)
    c.node_requests_are_read_back.ensures.steps c.task_requests_are_read_back.ensures moves now right all records on after lost calls replies task i round call outstanding
    (λ w events answers history position ballots has. c.a_waiting_call_can_count.ensures config program events w quorum leader i round t answers call history is position ballots has) position ballots
