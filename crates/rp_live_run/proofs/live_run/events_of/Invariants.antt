-- The events so far are those of the lines so far.
use Rattle.std.proofs.Common.{◌≡◌, take}
use Rattle.rp_live_run.specs.LiveRun.{events_of}
use Rattle.rp_live_run.proofs.live_run.events_of.Given as goal

abbrev pub invariant-loop-line : goal.invariant-loop-line
invariant-loop-line l = l.events.items ≡ events_of (take l.line-index l.script)
