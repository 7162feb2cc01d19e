-- The place knows one actor.
use Rattle.std.proofs.Common.{[], ◌∷◌, subst}
use Rattle.rp_board.specs.Looks.{HasWorld}
use Rattle.rp_board.specs.Parts.{actor_of}
use Rattle.rp_board.specs.Seats.{SeatState, setting_at}
use Rattle.rp_board.proofs.SeatBoxes.{world_at}
use Rattle.rp_board.proofs.seat.Seat.look.Goals as goal

pub look-requires-clause-follows : goal.look-requires-clause-follows
look-requires-clause-follows g c = λ parts world. (parts, world)

pub returns-clause-world : goal.returns-clause-world
returns-clause-world g c =
    let m = g.M.Machine in
    subst (λ (seat : SeatState g.row.M-Program.Denot). HasWorld (setting_at m.next m.answers m.begin seat) ((actor_of (g.S.Sits.party seat.setup.number), seat.part) ∷ [])) c.self.view_is
    (world_at m _ _ _ c.self.inside.place.me _ (λ v. v) c.deref.ensures c.self.invariant.place c.look.ensures.picked)
