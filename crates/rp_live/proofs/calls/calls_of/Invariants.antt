-- The calls so far are those among the events so far.
use Rattle.std.proofs.Common.{◌≡◌, filter_map, take}
use Rattle.rp_live.specs.Events.{call_by}
use Rattle.rp_live.proofs.calls.calls_of.Given as goal

abbrev pub invariant-loop-event : goal.invariant-loop-event
invariant-loop-event l = l.calls.items ≡ filter_map (call_by l.task) (take l.event-index l.events)
