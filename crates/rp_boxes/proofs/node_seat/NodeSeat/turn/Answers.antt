-- The turn is one event of the node, a cut of it, or none.
use Rattle.std.proofs.Common.{◌≡◌, true, false, Result, Err, inl, inr, sym, subst, ◌∙◌}
use Rattle.rp_base.specs.declared.fault.Fault.{Fault}
use Rattle.rp_actors.specs.rp_replica.specs.declared.sent.Sent.{Sent}
use Rattle.rp_board.specs.Seats.{SeatState}
use Rattle.rp_board.proofs.SeatBoxes.{with_failures}
use Rattle.rp_boxes.specs.NodeSeats.{IsGot, IsTurn, IsCutTurn, IsLightTurn, IsNoTurn}
use Rattle.rp_boxes.proofs.SeatTurns.{NodeStep, input_given, was_stopped, has_stepped, light_made, light_runs, stopped_event, stepped_seat, stepped_state, stopped_seat, stopped_state, unstepped_state}
use Rattle.rp_boxes.proofs.node_seat.NodeSeat.turn.Given as given
use Rattle.rp_boxes.proofs.node_seat.NodeSeat.turn.Goals as goal
use Rattle.rp_boxes.proofs.node_seat.NodeSeat.turn.Goals.{After-has_failed}

-- the step
abbrev step : (g : given.Over) (c : After-has_failed g) → NodeStep g.M.Machine
step g c =
    let seat = c.self.inside.seat in
    record {
      replica = c.self.inside.replica;
      seated = seat;
      sits = c.self.invariant;
      input = c.args.input.now;
      is = input_given c.texts_are_packets.ensures seat.setup.number seat.part c.args.input.now c.packets_are_right.ensures c.requires.right c.keeps_ranges.ensures
          (subst (λ (seen : SeatState g.row.M-Program.Denot). IsGot seen.part c.args.input.now) (sym c.self.view_is) c.requires.got);
    }

pub returns-then-has_failed-clause-err : goal.returns-then-has_failed-clause-err
returns-then-has_failed-clause-err g c =
    let m = g.M.Machine in
    inr (subst (λ (seat : SeatState g.row.M-Program.Denot). IsNoTurn m.next m.answers m.begin seat c.args.input.now seat _) c.self.view_is
    (was_stopped (step g (goal.at.returns-then-has_failed-clause-err g c).After-has_failed) (sym c.has_failed.ensures ∙ c.if-has_failed.true)))

pub note-requires : goal.note-requires
note-requires g c =
    has_stepped (step g (goal.at.note-requires g c).After-has_failed) (sym c.has_failed.ensures ∙ c.if-has_failed.false) c.turn_with.new.self c.in-Ok.sent c.in-Ok.ensures.answer _ c.buffer-buffer.ensures.unchanged

pub invariant_of-self : goal.invariant_of-self
invariant_of-self g c =
    stepped_seat (step g (goal.at.invariant_of-self g c).After-has_failed) _ c.buffer-buffer.ensures.unchanged c.turn_with.new.self _ c.in-Ok.sent c.note.ensures

pub note-requires-in-Err : goal.note-requires-in-Err
note-requires-in-Err g c =
    stopped_event (step g (goal.at.note-requires-in-Err g c).After-has_failed) (sym c.has_failed.ensures ∙ c.if-has_failed.false) c.turn_with.new.self c.in-Err.fault c.in-Err.ensures.answer
    (sym c.has_failed-in-Err.ensures ∙ c.if-not-has_failed.false) _ c.buffer-buffer.ensures.unchanged

pub invariant_of-self-in-Err : goal.invariant_of-self-in-Err
invariant_of-self-in-Err g c =
    stopped_seat (step g (goal.at.invariant_of-self-in-Err g c).After-has_failed) _ c.buffer-buffer.ensures.unchanged c.turn_with.new.self _ c.note-in-Err.ensures

pub returns-then-not-has_failed-clause-err : goal.returns-then-not-has_failed-clause-err
returns-then-not-has_failed-clause-err g c =
    let m = g.M.Machine in
    let at = step g (goal.at.returns-then-not-has_failed-clause-err g c).After-has_failed in
    let failures = c.turn_with.new.self.disk.failures in
    inr (subst (λ (z : SeatState g.row.M-Program.Denot × SeatState g.row.M-Program.Denot). IsNoTurn m.next m.answers m.begin z.0 c.args.input.now (with_failures failures z.1) c.in-Err.fault)
    (λ i. (c.self.view_is i, sym c.buffer-buffer.ensures.unchanged i))
    (unstepped_state at (sym c.has_failed.ensures ∙ c.if-has_failed.false) c.turn_with.new.self c.in-Err.fault c.in-Err.ensures.answer (sym c.has_failed-in-Err.ensures ∙ c.if-not-has_failed.true)))

pub returns-else-not-has_failed-clause-err : goal.returns-else-not-has_failed-clause-err
returns-else-not-has_failed-clause-err g c =
    let m = g.M.Machine in
    let at = step g (goal.at.returns-else-not-has_failed-clause-err g c).After-has_failed in
    inl (subst (λ (seat : SeatState g.row.M-Program.Denot). IsCutTurn m.next m.answers m.begin seat c.args.input.now (with_failures c.turn_with.new.self.disk.failures c.note-in-Err.new.self) c.in-Err.fault) c.self.view_is
    (stopped_state at _ c.buffer-buffer.ensures.unchanged c.turn_with.new.self _ c.note-in-Err.ensures
    (sym c.has_failed.ensures ∙ c.if-has_failed.false) c.in-Err.fault c.in-Err.ensures.answer (sym c.has_failed-in-Err.ensures ∙ c.if-not-has_failed.false)))

pub returns-in-Ok-clause-ok : goal.returns-in-Ok-clause-ok
returns-in-Ok-clause-ok g c =
    let m = g.M.Machine in
    let at = step g (goal.at.returns-in-Ok-clause-ok g c).After-has_failed in
    subst (λ (seat : SeatState g.row.M-Program.Denot). IsTurn m.next m.answers m.begin seat c.args.input.now (with_failures c.turn_with.new.self.disk.failures c.note.new.self) c.in-Ok.sent) c.self.view_is
    (stepped_state at _ c.buffer-buffer.ensures.unchanged c.turn_with.new.self _ c.in-Ok.sent c.note.ensures (sym c.has_failed.ensures ∙ c.if-has_failed.false) c.in-Ok.ensures.answer)

pub returns-then-has_failed-clause-certain : goal.returns-then-has_failed-clause-certain
returns-then-has_failed-clause-certain g c = λ light.
    let m = g.M.Machine in
    let at = step g (goal.at.returns-then-has_failed-clause-certain g c).After-has_failed in
    let here = subst (λ (seat : SeatState g.row.M-Program.Denot). IsLightTurn m.next m.answers m.begin seat c.args.input.now) (sym c.self.view_is) light in
    absurd (light_runs at here (sym c.has_failed.ensures ∙ c.if-has_failed.true))

pub returns-then-not-has_failed-clause-certain : goal.returns-then-not-has_failed-clause-certain
returns-then-not-has_failed-clause-certain g c = λ light.
    let m = g.M.Machine in
    let at = step g (goal.at.returns-then-not-has_failed-clause-certain g c).After-has_failed in
    let here = subst (λ (seat : SeatState g.row.M-Program.Denot). IsLightTurn m.next m.answers m.begin seat c.args.input.now) (sym c.self.view_is) light in
    let ended : Result Sent Fault = Err c.in-Err.fault in
    let never : false ≡ true = light_made at here ended (sym c.has_failed.ensures ∙ c.if-has_failed.false) c.in-Err.ensures.certain in
    cc

pub returns-else-not-has_failed-clause-certain : goal.returns-else-not-has_failed-clause-certain
returns-else-not-has_failed-clause-certain g c = λ light.
    let m = g.M.Machine in
    let at = step g (goal.at.returns-else-not-has_failed-clause-certain g c).After-has_failed in
    let here = subst (λ (seat : SeatState g.row.M-Program.Denot). IsLightTurn m.next m.answers m.begin seat c.args.input.now) (sym c.self.view_is) light in
    let ended : Result Sent Fault = Err c.in-Err.fault in
    let never : false ≡ true = light_made at here ended (sym c.has_failed.ensures ∙ c.if-has_failed.false) c.in-Err.ensures.certain in
    cc
