-- The node goes on running; it refuses the note only where memory ran out.
use Rattle.std.proofs.Common.{◌≡◌}
use Rattle.rp_threads.proofs.Later.{event_runs}
use Rattle.rp_live.proofs.Running.{note_memory}
use Rattle.rp_live.proofs.notes.note_one.Goals as goal

pub returns-in-Ok-clause-ok : goal.returns-in-Ok-clause-ok
returns-in-Ok-clause-ok g c = (_, c.in-Ok.ensures.ok)

pub returns-in-Ok-clause-runs : goal.returns-in-Ok-clause-runs
returns-in-Ok-clause-runs g c =
    let m = g.M.Machine in
    event_runs m.next m.answers m.begin (λ given. given ≡ c.args.input.now) c.args.seat.now c.node_step.new.seat _ c.in-Ok.ensures.ok

pub returns-in-Err-clause-only : goal.returns-in-Err-clause-only
returns-in-Err-clause-only g c =
    let m = g.M.Machine in
    note_memory m.next m.answers m.begin c.args.seat.now c.node_step.new.seat c.args.input.now c.in-Err.fault c.requires.note c.requires.runs c.never_failed.ensures c.in-Err.ensures.err
