use Rattle.std.proofs.Common.{◌≡◌, ◌++◌, take, drop, length, ◌≤◌}
use Rattle.std.specs.Prelude.{filter}
use Rattle.rp_machine.specs.Numbered.{outcome}
use Rattle.rp_model.specs.Pending.{most_pending, stays}
use Rattle.rp_server.proofs.pending.Pending.settle_each.Given as goal

-- the items that were not read, and after them those that stay of the others
abbrev pub invariant-loop : goal.invariant-loop
invariant-loop g l =
    let r = outcome g.M.Machine.next g.M.Machine.answers l.machine in
    (l.end ≡ length l.fn.self) × (l.end ≤ most_pending) × (l.self ≡ drop l.counter l.fn.self ++ filter (stays r.kept r.given (drop l.before l.log.taken)) (take l.counter l.fn.self))
