-- What the leader has applied answers the call, or the call waits.
use Rattle.std.proofs.Common.{inl, inr}
use Rattle.rp_machine.specs.Replay.{replay_answers}
use Rattle.rp_agreement.specs.Answered.{setting_for}
use Rattle.rp_progress.specs.Waiting.{applied_in, next_of}
use Rattle.rp_progress.proofs.Decided.{answered_or_not}
use Rattle.rp_progress.proofs.calls.a_waiting_call_can_be_answered.Goals as goal

pub returns : goal.returns
returns g c = λ config program events w quorum leader i round t replies call history is position ballots has.
    let m = g.M.Machine in
    let s = setting_for m.next m.answers m.begin config program in
    let can = c.a_waiting_call_can_count.ensures config program events w quorum leader i round t replies call history is position ballots has in
    record {
      more = can.more;
      after = can.after;
      goes_on = can.goes_on;
      ends = elim (answered_or_not (replay_answers s.next s.answers s.begin (applied_in can.after leader)) (next_of t replies)) [
        | inl answered ↦ inl (answered.0, can.replied answered.0 answered.1)
        | inr none ↦ inr (record { place = can.place; counts = can.counts; unanswered = none })
      ];
    }
