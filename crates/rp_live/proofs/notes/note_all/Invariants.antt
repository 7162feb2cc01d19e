-- The events so far are noted, and all nodes run.
use Rattle.std.proofs.Common.{◌≡◌, All, length}
use Rattle.rp_live.specs.Noted.{AreNoted}
use Rattle.rp_threads.specs.Rounds.{Runs}
use Rattle.rp_live.proofs.notes.note_all.Given as goal

abbrev pub invariant-loop-event : goal.invariant-loop-event
invariant-loop-event g l = record {
  size : length l.seats.items ≡ length l.fn.seats.items;
  run : All (λ seat. Runs seat.part) l.seats.items;
  noted : AreNoted g.M.Machine.next g.M.Machine.answers g.M.Machine.begin l.events l.event-index l.fn.seats.items l.seats.items;
}
