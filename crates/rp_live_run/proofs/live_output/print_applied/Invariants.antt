use Rattle.std.proofs.Common.{◌≡◌, ◌+◌, drop}
use Rattle.rp_live_run.specs.LiveOutput.{applied_text}
use Rattle.rp_output.specs.Stream.{WroteBefore}
use Rattle.rp_live_run.proofs.live_output.print_applied.Given as goal

-- the nodes so far are printed
abbrev pub invariant-loop-count : goal.invariant-loop-count
invariant-loop-count g l = record {
  number : l.node ≡ l.count-index;
  so_far : WroteBefore (g.W.Write.contents l.fn.writer) (g.W.Write.contents l.writer) (applied_text (l.count-index + 1) (drop l.count-index l.applied)) (applied_text 1 l.applied);
}
