-- The node at the place takes the note and goes on running, and the others stay.
use Rattle.std.proofs.Common.{◌≡◌, ◌∙◌, ◌-◌, ◌<◌, ℕ, length, refl, set, arith, subst, sym}
use Rattle.std.proofs.lemmas.List.Elements.{All-set}
use Rattle.std.proofs.lemmas.Result.{IfOk-weaker}
use Rattle.rp_board.specs.Seats.{SeatState}
use Rattle.rp_threads.specs.Rounds.{Runs}
use Rattle.rp_live.specs.Noted.{IsTakenAt}
use Rattle.rp_live.proofs.Noting.{found_at}
use Rattle.rp_live.proofs.notes.note_at.Goals as goal

pub note_one-requires-clause-runs : goal.note_one-requires-clause-runs
note_one-requires-clause-runs g c =
    let within : c.from-place.result - 1 < length c.args.seats.now.items = omega (arith, c.requires.within, c.from-place.ensures, c.get.ensures.value, c.get.ensures.in_range.0) in
    subst (λ (s : SeatState g.row.M-Program.Denot). Runs s.part) (sym c.index_mut.ensures.value) (c.requires.run (c.from-place.result - 1) c.index_mut.result.now within)

pub returns-clause-run : goal.returns-clause-run
returns-clause-run g c =
    IfOk-weaker c.note_one.result _ _ (λ _ runs. All-set (λ seat. Runs seat.part) c.args.seats.now.items (c.from-place.result - 1) c.note_one.new.seat runs c.requires.run) c.note_one.ensures.runs

pub returns-clause-ok : goal.returns-clause-ok
returns-clause-ok g c =
    let m = g.M.Machine in
    let place = c.from-place.result - 1 in
    let olds = c.args.seats.now.items in
    let number : c.from-place.result ≡ c.args.node = c.from-place.ensures ∙ c.get.ensures.value in
    let within : place < length olds = omega (arith, c.requires.within, c.from-place.ensures, c.get.ensures.value, c.get.ensures.in_range.0) in
    IfOk-weaker c.note_one.result _ _ (λ _ taken.
    subst (λ (n : ℕ). IsTakenAt m.next m.answers m.begin n c.args.input.now olds (set olds place c.note_one.new.seat)) number (record {
      old = c.index_mut.result.now;
      new = c.note_one.new.seat;
      at = found_at olds place c.index_mut.result.now within c.index_mut.ensures.value;
      news_are = refl;
      packets = taken.0;
      event = taken.1;
    })) c.note_one.ensures.ok
