use Rattle.std.proofs.Common.{◌≡◌, ◌-◌}
use Rattle.rp_run.specs.Output.{Play, drained}
use Rattle.rp_run.specs.Runs.{HasParts, Follows, run_setting}
use Rattle.rp_run.proofs.RunParts.{Underway}
use Rattle.rp_run.proofs.run.Run.drain.Given as goal

-- what was written so far, and then a drain of what may still be delivered, is the whole drain
abbrev pub invariant-loop-delivered : goal.invariant-loop-delivered
invariant-loop-delivered g l =
    let m = g.M.Machine in
    let s = run_setting m.next m.answers m.begin m.image l.fn.self.cluster l.options in
    record {
      parts : HasParts l.options.config.nodes l.self.cluster;
      setup : l.self.cluster.setup ≡ l.fn.self.cluster.setup;
      counts : l.self.cluster.failures ≡ l.fn.self.cluster.failures;
      so_far : (play : Play) → Follows l.fn.self.cluster.world l.fn.self.settled play
          → Underway l.self.cluster.world l.self.settled (g.W.Write.contents l.fn.writer) (g.W.Write.contents l.writer) (drained s l.line l.options.most play)
          (λ now. drained s l.line (l.options.most - l.delivered) now);
    }
