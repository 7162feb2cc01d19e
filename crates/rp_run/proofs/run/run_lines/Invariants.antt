use Rattle.std.proofs.Common.{◌≡◌, drop}
use Rattle.rp_run.specs.Output.{opening_play, script_said}
use Rattle.rp_run.specs.Runs.{HasParts, opening_cluster, run_setting}
use Rattle.rp_run.proofs.RunParts.{Underway}
use Rattle.rp_run.proofs.run.run_lines.Given as goal

-- what was written so far, and then what the lines that are left print, is the output of the script
abbrev pub invariant-loop-line : goal.invariant-loop-line
invariant-loop-line g l =
    let m = g.M.Machine in
    let opening = opening_cluster l.options.config l.fn.program in
    let s = run_setting m.next m.answers m.begin m.image opening l.options in
    record {
      parts : HasParts l.options.config.nodes l.run.cluster;
      setup : l.run.cluster.setup ≡ opening.setup;
      so_far : Underway l.run.cluster.world l.run.settled (g.W.Write.contents l.fn.writer) (g.W.Write.contents l.writer) (script_said s l.options.most (opening_play s) l.options.lines.now)
          (λ now. script_said s l.options.most now (drop l.line-index l.options.lines.now));
    }
