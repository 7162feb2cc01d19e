-- The event that is to be counted allows the step.
use Rattle.std.proofs.Common.{◌≡◌, ◌+◌, ◌<◌, ℕ, sym, ap, subst, ◌∙◌, arith}
use Rattle.std.specs.Arc.{arc_value}
use Rattle.atomic_table.specs.Seated.{TableId}
use Rattle.rp_board.specs.Parts.{actor_in, actor_of, part_in}
use Rattle.rp_board.specs.Plays.{Sight, alone}
use Rattle.rp_board.specs.Rule.{HasOwnPackets}
use Rattle.rp_board.specs.Seats.{SeatState, setting_at, table_setting}
use Rattle.rp_board.specs.Steps.{HasEvent}
use Rattle.rp_board.proofs.SeatBoxes.{Board, at_after, seat_with}
use Rattle.rp_board.proofs.Turns.{turn_allows}
use Rattle.rp_board.proofs.seat.Seat.note.Given as given
use Rattle.rp_board.proofs.seat.Seat.note.Goals as goal
use Rattle.rp_board.proofs.seat.Seat.note.Goals.{After-actor_of-word}

named : (g : given.Over) (c : After-actor_of-word g) → c.actor_of-word.result ≡ actor_of (g.S.Sits.party (g.S.Sits.number c.self.inside.number))
named g c = c.actor_of-word.ensures.actor ∙ ap actor_of c.sitting.ensures

pub fetch_add-requires : goal.fetch_add-requires
fetch_add-requires g c =
    let m = g.M.Machine in
    let says = g.J.Fact.says in
    let k = c.actor_of-word.result in
    let found = c.deref.result.now in
    let place = c.self.inside.place in
    let part = part_in place.me.0 in
    let at = c.self.invariant in
    let is = named g (goal.at.fetch_add-requires g c).After-actor_of-word in
    let event = subst (λ (seat : SeatState g.row.M-Program.Denot). HasEvent (setting_at m.next m.answers m.begin seat) (actor_of (g.S.Sits.party seat.setup.number)) seat.part says) (sym c.self.view_is) c.requires in
    let here = subst (λ (z : Board g.row.M.Denot g.row.M-Program.Denot × ℕ). HasEvent (table_setting m z.0.shared.key) z.1 part says) (λ i. (sym c.deref.ensures i, sym is i)) event in
    let sized : 256 + k < (arc_value c.self.inside.board).shared.table_id.words = rw at.sized.0 (omega (arith, c.actor_of-word.ensures.small)) in (
      at.same ∙ ap (λ (board : Board g.row.M.Denot g.row.M-Program.Denot). board.shared.table_id) (sym c.deref.ensures),
      subst (λ (board : Board g.row.M.Denot g.row.M-Program.Denot). 256 + k < board.shared.table_id.words) (sym c.deref.ensures) sized,
      turn_allows (table_setting m found.shared.key) (c.events_keep.ensures found.shared.key.config found.shared.key.program.value) found.shared.table_id.slots place.id k place.me says
          (subst (λ (j : ℕ). place.me ≡ alone j part) (sym is) at.place) here,
    )

pub invariant_of-self : goal.invariant_of-self
invariant_of-self g c =
    let number = g.S.Sits.number c.self.inside.number in
    let k = actor_of (g.S.Sits.party number) in
    let place = c.self.inside.place in
    let at = c.self.invariant in
    let noted = c.fetch_add.ensures.2 in
    let first : actor_in place.me.0 ≡ k = ap (λ (me : Sight). actor_in me.0) at.place in
    at_after (arc_value c.self.inside.board).shared.table_id k place c.fetch_add.new.seat noted.part at c.fetch_add.ensures.0 (noted.is ∙ ap (λ (j : ℕ). alone j noted.part) first) noted.fills noted.takes
    (subst (λ (j : ℕ). HasOwnPackets j noted.part) first noted.own)

pub returns : goal.returns
returns g c =
    let key = (arc_value c.self.inside.board).shared.key in
    let noted = c.fetch_add.ensures.2 in
    let part = part_in c.fetch_add.new.seat.me.0 in
    let state : TableId → SeatState g.row.M-Program.Denot = λ table. record {
      setup = record { table = table; config = key.config; program = key.program.value; number = g.S.Sits.number c.self.inside.number };
      failures = 0;
      part = part;
    } in
    record {
      after = ap state c.fetch_add.ensures.0 ∙ ap (seat_with part) c.self.view_is;
      picked = subst g.J.Fact.says (sym (ap (λ (me : Sight). part_in me.0) noted.is)) noted.picked;
    }
