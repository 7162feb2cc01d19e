use Rattle.std.proofs.Common.{◌≤◌}
use Rattle.rp_run.specs.Output.{names_of}
use Rattle.rp_output.specs.Stream.{WroteBefore}
use Rattle.rp_run.proofs.Tracing.{messages_from}
use Rattle.rp_run.proofs.effects.print_packets.Given as goal

-- the packets before this number are printed
abbrev pub invariant-loop-number : goal.invariant-loop-number
invariant-loop-number g l =
    let left = messages_from (names_of l.tasks) l.cluster.world.sent in
    record {
      above : l.first ≤ l.number;
      so_far : WroteBefore (g.W.Write.contents l.fn.writer) (g.W.Write.contents l.writer) (left l.number) (left l.first);
    }
