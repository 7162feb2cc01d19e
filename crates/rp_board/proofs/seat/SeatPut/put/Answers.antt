-- The packet is one that the seat sent, so its text names its receiver.
use Rattle.std.proofs.Common.{sym, ap, subst, ◌∙◌}
use Rattle.rp_codec.specs.declared.packet.Party.{Party}
use Rattle.rp_board.specs.Parts.{actor_of, part_in}
use Rattle.rp_board.specs.Seats.{SeatState, IsSentText}
use Rattle.rp_board.proofs.SeatBoxes.{PutStep, box_step, carries, put_keeps, used_state, at_fault}
use Rattle.rp_board.proofs.seat.SeatPut.put.Given as given
use Rattle.rp_board.proofs.seat.SeatPut.put.Goals as goal
use Rattle.rp_board.proofs.seat.SeatPut.put.Goals.{After-fill}

-- who sits there
abbrev party : (g : given.Over) → g.row.S.Denot → Party
party g number = g.S.Sits.party (g.S.Sits.number number)

-- the step at the box
abbrev puts : (g : given.Over) (c : After-fill g) → PutStep g.row.M.Denot g.row.M-Program.Denot
puts g c = record {
  step = box_step (party g c.self.inside.number) (g.S.Sits.number c.self.inside.number) c.self.inside.place c.fill.new.place c.deref.ensures
      (c.actor_of-from.ensures.actor ∙ ap actor_of c.sitting.ensures) c.self.invariant c.fill.ensures.table;
  bytes = c.args.packet.items;
  to = c.receiver-to.result;
  sent = subst (λ (seat : SeatState g.row.M-Program.Denot). IsSentText seat.part c.args.packet.items) (sym c.self.view_is) c.requires.sent;
  receiver = λ m right is. c.receiver-to.ensures.named m right (c.as_slice.ensures.value ∙ is);
  sees = c.fill.ensures.place;
}

pub fill-requires-clause-packet : goal.fill-requires-clause-packet
fill-requires-clause-packet g c =
    let sent = subst (λ (seat : SeatState g.row.M-Program.Denot). IsSentText seat.part c.args.packet.items) (sym c.self.view_is) c.requires.sent in
    carries c.actor_of-from.result (actor_of (party g c.self.inside.number)) c.receiver-to.result (part_in c.self.inside.place.me.0) c.args.packet.items
    (c.actor_of-from.ensures.actor ∙ ap actor_of c.sitting.ensures) c.self.invariant.own sent
    (λ m right is. c.receiver-to.ensures.named m right (c.as_slice.ensures.value ∙ is))

pub invariant_of-self : goal.invariant_of-self
invariant_of-self g c = put_keeps (puts g (goal.at.invariant_of-self g c).After-fill) c.fill.result c.fill.ensures.put c.fill.ensures.unchanged

pub returns-in_err-left-clause-used : goal.returns-in_err-left-clause-used
returns-in_err-left-clause-used g c =
    let at = puts g (goal.at.returns-in_err-left-clause-used g c).After-fill in
    at_fault _ _ c.from_residual.result c.from_residual.ensures.1 (used_state at g.M.Machine c.in_err-left.ensures.used)

pub invariant_of-self-2 : goal.invariant_of-self-2
invariant_of-self-2 g c = put_keeps (puts g (goal.at.invariant_of-self-2 g c).After-fill) c.fill.result c.fill.ensures.put c.fill.ensures.unchanged
