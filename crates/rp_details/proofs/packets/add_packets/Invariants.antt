use Rattle.std.proofs.Common.{◌≡◌, ◌≤◌, ◌-◌, ◌++◌, drop}
use Rattle.rp_run.specs.Output.{names_of}
use Rattle.rp_details.specs.Details.{packets_lines}
use Rattle.rp_details.proofs.packets.add_packets.Given as goal

-- the packets before this number are said, and the others are left
abbrev pub invariant-loop-number : goal.invariant-loop-number
invariant-loop-number g l = record {
  above : l.first ≤ l.number;
  so_far : l.text.items ++ packets_lines (names_of l.tasks) l.number (drop (l.number - 1) l.cluster.world.sent)
      ≡ l.initial.text.items ++ packets_lines (names_of l.tasks) l.first (drop (l.first - 1) l.cluster.world.sent);
}
