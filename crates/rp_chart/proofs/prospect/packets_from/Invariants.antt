use Rattle.std.proofs.Common.{◌≡◌, ◌-◌, ◌≤◌, ◌++◌, drop}
use Rattle.rp_chart.proofs.prospect.packets_from.Given as goal

-- the packets so far, and those from this number on are left
abbrev pub invariant-loop-number : goal.invariant-loop-number
invariant-loop-number g l = record {
  above : l.first ≤ l.number;
  so_far : l.packets.items ++ drop (l.number - 1) l.cluster.world.sent ≡ drop (l.first - 1) l.cluster.world.sent;
}
