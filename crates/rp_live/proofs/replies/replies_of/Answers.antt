-- One task more has its seat and its replies in the lists.
use Rattle.std.proofs.Common.{All, sym, ap, subst, ◌∙◌}
use Rattle.rp_board.specs.Parts.{task_of}
use Rattle.rp_board.specs.Seats.{SeatState}
use Rattle.rp_threads.proofs.Places.{none_left}
use Rattle.rp_live.specs.Ends.{HadMemory}
use Rattle.rp_live.specs.LiveOutcome.{replies_at}
use Rattle.rp_live.proofs.Zips.{all_none, one_ended, one_flat, one_mapped}
use Rattle.rp_live.proofs.replies.replies_of.Goals as goal

pub loop-end-preserved : goal.loop-end-preserved
loop-end-preserved g c =
    let was = c.loop-end.invariant in
    let rest = c.loop-end.end-iterator.rest.items in
    let left = c.next.new.self.rest.items in
    let end = c.in-Some.end in
    let steps = c.in-Some.ensures.steps.0 in
    let ended = c.in_ok-seat.ensures in
    let taken = c.replies.ensures ∙ ap (λ (s : SeatState g.row.M-Program.Denot). (task_of s.part.role).replies) ended.ok in
    record {
      memory = λ all. was.memory (one_ended HadMemory rest end left steps ended.memory all);
      seats = one_mapped (λ e. e.seat) rest left end c.loop-end.seats.items c.push.new.self.items _ c.in_ok-seat.seat c.in_ok-push.ensures.items ended.ok steps was.seats;
      replies = one_flat replies_at rest left end c.loop-end.replies.items c.extend_from_slice.new.self.items _ c.replies.result.now c.in_ok-extend_from_slice.ensures.items taken steps was.replies;
    }

pub returns-clause-memory : goal.returns-clause-memory
returns-clause-memory g c =
    let rest = c.loop-end.end-iterator.rest in
    c.loop-end.invariant.memory (subst (All HadMemory) (sym (none_left rest.items rest.len rest.ok.0 c.in-None.ensures.steps.0)) (all_none HadMemory))
