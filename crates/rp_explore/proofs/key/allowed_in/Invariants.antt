use Rattle.std.proofs.Common.{◌≡◌, ◌+◌, ◌<◌, ℕ, length, get_or, if◌then◌else◌}
use Rattle.rp_orders.specs.Guards.{may_go_on}
use Rattle.rp_machine.specs.Numbered.{outcome}
use Rattle.rp_explore.proofs.key.allowed_in.Given as goal

-- the tasks so far
abbrev pub invariant-loop-place : goal.invariant-loop-place
invariant-loop-place g l =
    let m = g.M.Machine in
    let r = outcome m.next m.answers l.state in record {
      size : length l.allowed ≡ 8;
      each : (k : ℕ) → k < l.place → get_or l.allowed k 0 ≡ (if may_go_on l.guards r.kept r.given (k + 1) then 1 else 0);
    }
