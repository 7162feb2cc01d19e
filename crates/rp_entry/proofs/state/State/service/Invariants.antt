use Rattle.std.proofs.Common.{◌≡◌, ◌≤◌, ◌+◌, length}
use Rattle.rp_body.specs.Store.{limits_of}
use Rattle.rp_entry.specs.Operations.{OperationsFit}
use Rattle.rp_entry.specs.Queue.{all_calls}
use Rattle.rp_entry.specs.Protected.{HasQueues}
use Rattle.rp_entry.proofs.Chains.{Reaches}
use Rattle.rp_entry.proofs.state.State.service.Given as goal

abbrev pub invariant-loop-answer : goal.invariant-loop-answer
invariant-loop-answer l = record {
  reached : Reaches l.operations l.initial.self l.served l.self;
  fits : OperationsFit (limits_of l.self.store) l.operations;
  counts : limits_of l.self.store ≡ limits_of l.initial.self.store;
  queues : HasQueues l.operations l.self;
  room : length l.served + length (all_calls l.self.queues) ≤ 8;
}

abbrev pub decreases-loop-answer : goal.decreases-loop-answer
decreases-loop-answer l = length (all_calls l.self.queues)
