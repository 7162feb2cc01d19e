-- One node more has reported.
use Rattle.std.proofs.Common.{◌≡◌, ◌∙◌, ℕ, All, length, arith, refl, sym, ap, subst}
use Rattle.rp_board.specs.Seats.{SeatSetup}
use Rattle.rp_boxes.specs.Audits.{known_of}
use Rattle.rp_boxes.specs.NodeSeats.{HasApplied}
use Rattle.rp_boxes.specs.rp_actors.proofs.Fresh.{rest_of}
use Rattle.rp_threads.proofs.Places.{none_left, none_zipped, one_more_zipped, all_zipped}
use Rattle.rp_live.specs.Ends.{HadNoFault}
use Rattle.rp_live.specs.Seats.{AreNumbered, IsEndOfRun, IsRead, KnowsNothingAbove, StillRuns}
use Rattle.rp_live.proofs.Reading.{IsReadBelow, left_numbered, next_number, one_longer, one_read, read_still, so_far_weaker, still_unread, zip_weaker}
use Rattle.rp_live.proofs.Zips.{all_none, grown_zip, none_zip, one_ended}
use Rattle.rp_live.proofs.reports.read_logs.Goals as goal

pub loop-end-init : goal.loop-end-init
loop-end-init g c =
    let m = g.M.Machine in
    let same = c.into_iter-end-iterator.ensures.into_iter_gives.0 in
    let none : length c.new-seats.result.items ≡ 0 = ap length c.new-seats.ensures.items in
    record {
      none = λ all. subst (All HadNoFault) same all;
      same = refl;
      left = subst (All IsEndOfRun) (sym same) c.requires.ended;
      still = subst (All StillRuns) (sym same) c.requires.still;
      reported = none_zipped same c.new-seats.ensures.items;
      applied = none_zip (λ seat count. HasApplied seat.part count) c.new-seats.result.items c.new-applied.result.items c.new-seats.ensures.items c.new-applied.ensures.items;
      numbers = subst (λ (n : ℕ). AreNumbered n c.into_iter-end-iterator.result.rest.items) (sym none) (subst (λ ends. AreNumbered 0 ends) (sym same) c.requires.numbers);
      unread = subst (λ (n : ℕ). KnowsNothingAbove n c.args.audit.now.known) (sym none) c.requires.unread;
      read = none_zipped same c.new-seats.ensures.items;
    }

pub read_end-requires-clause-ended : goal.read_end-requires-clause-ended
read_end-requires-clause-ended g c = subst (All IsEndOfRun) c.in-Some.ensures.steps.0 c.loop-end.invariant.left 0 c.in-Some.end (omega arith)

pub read_end-requires-clause-still : goal.read_end-requires-clause-still
read_end-requires-clause-still g c = subst (All StillRuns) c.in-Some.ensures.steps.0 c.loop-end.invariant.still 0 c.in-Some.end (omega arith)

pub loop-end-preserved : goal.loop-end-preserved
loop-end-preserved g c =
    let m = g.M.Machine in
    let was = c.loop-end.invariant in
    let rest = c.loop-end.end-iterator.rest.items in
    let left = c.next.new.self.rest.items in
    let steps = c.in-Some.ensures.steps.0 in
    let stated = c.in_ok-seat.ensures in
    let old = c.loop-end.audit.known in
    let new = c.read_end.new.audit.known in
    let number = length c.loop-end.seats.items in
    let more = length c.push.new.self.items in
    let longer = one_longer c.loop-end.seats.items c.push.new.self.items c.in_ok-seat.seat c.in_ok-push.ensures.items in
    let at = next_number number rest left c.in-Some.end steps was.numbers in
    record {
      none = λ all. was.none (one_ended HadNoFault rest c.in-Some.end left steps stated.none all);
      same = stated.same ∙ was.same;
      left = rest_of IsEndOfRun rest c.in-Some.end left steps was.left;
      still = rest_of StillRuns rest c.in-Some.end left steps was.still;
      reported = one_more_zipped was.reported steps c.in_ok-push.ensures.items stated.reported;
      applied = grown_zip (λ seat count. HasApplied seat.part count) c.loop-end.seats.items c.push.new.self.items c.loop-end.applied.items c.push-in-loop-end.new.self.items
          c.in_ok-seat.seat c.in_ok-seat.count c.in_ok-push.ensures.items c.in_ok-push-2.ensures.items was.applied stated.applied;
      numbers = left_numbered number more rest left c.in-Some.end steps longer was.numbers;
      unread = still_unread number more c.in-Some.end.seat.setup.number old new longer at stated.others was.unread;
      read = one_more_zipped
          (so_far_weaker (λ end seat. IsReadBelow m.next m.answers m.begin number old end.seat seat) (λ end seat. IsReadBelow m.next m.answers m.begin more new end.seat seat)
          (λ end seat. read_still m.next m.answers m.begin number more c.in-Some.end.seat.setup.number old new longer at stated.others end.seat seat) c.args.nodes.items rest c.loop-end.seats.items was.read)
          steps c.in_ok-push.ensures.items (one_read m.next m.answers m.begin number more old new c.in-Some.end.seat c.in_ok-seat.seat longer at (ap (λ (s : SeatSetup g.row.M-Program.Denot). s.number) stated.reported.same) was.unread stated.read);
    }

pub returns-clause-none : goal.returns-clause-none
returns-clause-none g c =
    let rest = c.loop-end.end-iterator.rest in
    c.loop-end.invariant.none (subst (All HadNoFault) (sym (none_left rest.items rest.len rest.ok.0 c.in-None.ensures.steps.0)) (all_none HadNoFault))

pub returns-clause-reported : goal.returns-clause-reported
returns-clause-reported g c =
    let rest = c.loop-end.end-iterator.rest in
    all_zipped c.loop-end.invariant.reported (none_left rest.items rest.len rest.ok.0 c.in-None.ensures.steps.0)

pub returns-clause-read : goal.returns-clause-read
returns-clause-read g c =
    let m = g.M.Machine in
    let rest = c.loop-end.end-iterator.rest in
    let known = c.loop-end.audit.known in
    zip_weaker (λ end seat. IsReadBelow m.next m.answers m.begin (length c.loop-end.seats.items) known end.seat seat) (λ end seat. IsRead m.next m.answers m.begin 0 end.seat seat (length (known_of known seat.setup.number)))
    (λ end seat r. r.read) c.args.nodes.items c.loop-end.seats.items
    (all_zipped c.loop-end.invariant.read (none_left rest.items rest.len rest.ok.0 c.in-None.ensures.steps.0))
