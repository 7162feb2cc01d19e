use Rattle.std.proofs.Common.{◌≡◌, ◌+◌, ◌-◌, ◌*◌, ◌≤◌, ◌++◌}
use Rattle.rp_model.specs.Learner.{asks_for_each}
use Rattle.rp_model.specs.Leader.{unlearned_in}
use Rattle.rp_outbox.specs.Packets.{longest_text}
use Rattle.rp_replica.proofs.Asking.{asks_from}
use Rattle.rp_replica.proofs.replica.Replica.ask_missing.Given as goal

-- with the questions from here on all are asked, and there is room for as many
abbrev pub invariant-loop-index : goal.invariant-loop-index
invariant-loop-index g l =
    (l.out.sent ++ asks_from l.fn.self.me l.fn.to l.fn.self.records l.range.first l.range.count l.index
    ≡ l.fn.out.sent ++ asks_for_each l.fn.self.me l.fn.to (unlearned_in l.fn.self.records l.range))
    × (longest_text * (l.range.count - l.index) ≤ l.out.room)
