-- What the line gives on is the text of a packet that the seat got.
use Rattle.std.proofs.Common.{refl, sym, subst}
use Rattle.rp_board.specs.Seats.{SeatState}
use Rattle.rp_threads.specs.Lines.{HoldsTextsOf, IsTextAmong, given_on}
use Rattle.rp_threads.specs.Turns.{Works}
use Rattle.rp_threads.proofs.Texts.{released_holds, given_holds}
use Rattle.rp_threads.proofs.Steps.{received}
use Rattle.rp_threads.proofs.turns.work.Goals as goal

pub node_step-requires-clause-got : goal.node_step-requires-clause-got
node_step-requires-clause-got g c =
    let got = c.args.seat.now.part.got in
    subst (IsTextAmong got) (sym c.as_slice.ensures.value)
    (given_holds got c.args.line.now c.in-Some.packet.items c.gives_what_it_took.ensures.picked c.requires.held (sym c.in-Some.ensures.packet))

pub returns-in_err-packets-in-Some-clause-held : goal.returns-in_err-packets-in-Some-clause-held
returns-in_err-packets-in-Some-clause-held g c =
    let r = c.release in
    released_holds c.args.line.now r.new.self r.ensures.after r.ensures.empty c.gives_what_it_took.ensures.released c.requires.held c.node_step.ensures.got

pub returns-in_err-packets-in-None-clause-held : goal.returns-in_err-packets-in-None-clause-held
returns-in_err-packets-in-None-clause-held g c =
    let r = c.release in
    released_holds c.args.line.now r.new.self r.ensures.after r.ensures.empty c.gives_what_it_took.ensures.released c.requires.held c.node_step-in-None.ensures.got

pub returns-in_ok-packets-in-Some-clause-held : goal.returns-in_ok-packets-in-Some-clause-held
returns-in_ok-packets-in-Some-clause-held g c =
    let r = c.release in
    subst (λ (seat : SeatState g.row.M-Program.Denot). HoldsTextsOf seat.part.got r.new.self) (sym c.lend.ensures)
    (released_holds c.args.line.now r.new.self r.ensures.after r.ensures.empty c.gives_what_it_took.ensures.released c.requires.held c.node_step.ensures.got)

pub returns-in_ok-packets-in-Some-clause-ok : goal.returns-in_ok-packets-in-Some-clause-ok
returns-in_ok-packets-in-Some-clause-ok g c =
    let m = g.M.Machine in
    let given = given_on c.args.line.now in
    let packets = c.in_ok-packets-in-Some.packets in
    subst (λ (seat : SeatState g.row.M-Program.Denot). Works m.next m.answers m.begin given c.args.lead c.args.seat.now seat packets) (sym c.lend.ensures)
    (received m.next m.answers m.begin given c.in-Some.packet.items c.args.lead _ c.args.seat.now c.node_step.new.seat packets (sym c.in-Some.ensures.packet) c.as_slice.ensures.value c.in_ok-packets-in-Some.ensures.ok)

pub returns-in_ok-packets-in-None-clause-held : goal.returns-in_ok-packets-in-None-clause-held
returns-in_ok-packets-in-None-clause-held g c =
    let r = c.release in
    released_holds c.args.line.now r.new.self r.ensures.after r.ensures.empty c.gives_what_it_took.ensures.released c.requires.held c.node_step-in-None.ensures.got

pub returns-in-None-2-clause-held : goal.returns-in-None-2-clause-held
returns-in-None-2-clause-held g c =
    let r = c.release in
    released_holds c.args.line.now r.new.self r.ensures.after r.ensures.empty c.gives_what_it_took.ensures.released c.requires.held refl
