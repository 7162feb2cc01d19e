-- The seat gets the packet that was in the box, or stays as it is.
use Rattle.std.proofs.Common.{ap, ◌∙◌}
use Rattle.rp_board.specs.Parts.{actor_of}
use Rattle.rp_board.proofs.SeatBoxes.{BoxStep, box_step, fetched_at, sent_state, missed_state}
use Rattle.rp_board.proofs.seat.SeatFetch.fetch.Given as given
use Rattle.rp_board.proofs.seat.SeatFetch.fetch.Goals as goal
use Rattle.rp_board.proofs.seat.SeatFetch.fetch.Goals.{After-empty}

-- the step at the box
abbrev step : (g : given.Over) (c : After-empty g) → BoxStep g.row.M.Denot g.row.M-Program.Denot
step g c =
    let number = g.S.Sits.number c.self.inside.number in
    box_step (g.S.Sits.party number) number c.self.inside.place c.empty.new.place c.deref.ensures (c.actor_of-to.ensures.actor ∙ ap actor_of c.sitting.ensures) c.self.invariant c.empty.ensures.table

pub invariant_of-self : goal.invariant_of-self
invariant_of-self g c = fetched_at (step g (goal.at.invariant_of-self g c).After-empty) c.actor_of-from.result c.empty.result c.empty.ensures.none c.empty.ensures.some

pub returns-clause-sent : goal.returns-clause-sent
returns-clause-sent g c =
    sent_state (step g (goal.at.returns-clause-sent g c).After-empty) c.actor_of-from.result g.M.Machine c.args.from c.actor_of-from.ensures.actor c.empty.result c.empty.ensures.some c.empty.ensures.world

pub returns-clause-missed : goal.returns-clause-missed
returns-clause-missed g c =
    missed_state (step g (goal.at.returns-clause-missed g c).After-empty) c.actor_of-from.result g.M.Machine c.args.from c.actor_of-from.ensures.actor c.empty.result c.empty.ensures.none c.empty.ensures.missed
