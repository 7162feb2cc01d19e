use Rattle.std.proofs.Common.{◌≡◌, take}
use Rattle.rp_entry.specs.Queue.{empty_queues}
use Rattle.rp_entry.proofs.state.State.new.Given as goal

abbrev pub invariant-loop : goal.invariant-loop
invariant-loop l = l.queues.items ≡ empty_queues (take l.index l.entries)
