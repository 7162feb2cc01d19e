-- What the line gives on is the text of a packet that the seat got.
use Rattle.std.proofs.Common.{Option, List, ℕ, refl, ap, subst}
use Rattle.rp_board.specs.Seats.{SeatState}
use Rattle.rp_boxes.specs.TaskSeats.{IsReplyTurn}
use Rattle.rp_threads.specs.TaskRounds.{Hears}
use Rattle.rp_threads.proofs.Texts.{released_holds}
use Rattle.rp_threads.proofs.tasks.hear.Goals as goal

pub returns-in_err-taken-in-Some-clause-held : goal.returns-in_err-taken-in-Some-clause-held
returns-in_err-taken-in-Some-clause-held g c =
    let r = c.release in
    released_holds c.args.line.now r.new.self r.ensures.after r.ensures.empty c.gives_what_it_took.ensures.released c.requires.held
    (ap (λ (seat : SeatState g.row.M-Program.Denot). seat.part.got) c.in_err-taken-in-Some.ensures.err.1)

pub returns-in_ok-taken-in-Some-clause-held : goal.returns-in_ok-taken-in-Some-clause-held
returns-in_ok-taken-in-Some-clause-held g c =
    let r = c.release in
    released_holds c.args.line.now r.new.self r.ensures.after r.ensures.empty c.gives_what_it_took.ensures.released c.requires.held
    (ap (λ (seat : SeatState g.row.M-Program.Denot). seat.part.got) c.in_ok-taken-in-Some.ensures.ok.after)

pub returns-in_ok-taken-in-Some-clause-ok : goal.returns-in_ok-taken-in-Some-clause-ok
returns-in_ok-taken-in-Some-clause-ok g c =
    let seat = c.args.seat.now in
    let after = c.reply.new.self in
    let taken = c.in_ok-taken-in-Some.taken in
    let turn = subst (λ (text : List ℕ). IsReplyTurn seat text after taken) c.as_slice.ensures.value c.in_ok-taken-in-Some.ensures.ok in
    subst (λ (o : Option (List ℕ)). Hears o seat after c.is_some.result) c.in-Some.ensures.packet (taken, turn, c.is_some.ensures)

pub returns-in-None-clause-held : goal.returns-in-None-clause-held
returns-in-None-clause-held g c =
    let r = c.release in
    released_holds c.args.line.now r.new.self r.ensures.after r.ensures.empty c.gives_what_it_took.ensures.released c.requires.held refl
