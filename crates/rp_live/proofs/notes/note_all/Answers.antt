-- One event more is noted.
use Rattle.std.proofs.Common.{◌∙◌, ℕ, arith, add-one, sym, subst}
use Rattle.rp_live.specs.Noted.{AreNoted}
use Rattle.rp_live.proofs.Noting.{found_at}
use Rattle.rp_live.proofs.notes.note_all.Goals as goal

pub loop-event-preserved : goal.loop-event-preserved
loop-event-preserved g c =
    let m = g.M.Machine in
    let was = c.loop-event.invariant in
    let index = c.loop-event.event-index in
    let event = c.event-item.result in
    let events = c.args.events.now in
    let at = found_at events index event (omega (arith, c.loop-event-test.true)) c.event-item.is in
    record {
      size = c.note.ensures.size ∙ was.size;
      run = c.in_ok-note.ensures.run;
      noted = subst (λ (n : ℕ). AreNoted m.next m.answers m.begin events n c.args.seats.now.items c.note.new.seats.items) (sym (add-one index))
          (c.loop-event.seats.items, event, was.noted, at, c.in_ok-note.ensures.ok);
    }
