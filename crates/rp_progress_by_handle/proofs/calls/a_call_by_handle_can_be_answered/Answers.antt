-- What the leader has applied answers the call, or the call waits.
use Rattle.std.proofs.Common.{inl, inr}
use Rattle.rp_machine.specs.Replay.{replay_answers}
use Rattle.rp_agreement.specs.Answered.{named}
use Rattle.rp_installations.specs.Outcomes.{applied_by}
use Rattle.rp_progress.proofs.Decided.{answered_or_not}
use Rattle.rp_progress_by_handle.proofs.calls.a_call_by_handle_can_be_answered.Goals as goal

pub returns : goal.returns
returns g c = λ config program moves now after quorum leader i round t records calls replies call right all is on position ballots task outstanding lost.
    let m = g.M.Machine in
    let can = c.a_call_by_handle_can_count.ensures config program moves now after quorum leader i round t records calls replies call right all is on position ballots task outstanding lost in
    let counted = can.counted in
    record {
      later = can.later;
      goes_on = can.goes_on;
      at = counted.at;
      ends = elim (answered_or_not (replay_answers m.next m.answers (m.begin program) (applied_by counted.at.node)) (named t calls.made)) [
        | inl answered ↦ inl (record { answer = answered.0; given = answered.1; taken = counted.replied answered.0 answered.1 })
        | inr none ↦ inr none
      ];
    }
