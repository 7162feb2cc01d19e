use Rattle.std.specs.Io.KnownBytes.{Appends}
use Rattle.rp_run.specs.Items.{items_text}
use Rattle.rp_run.specs.Output.{nodes_items}
use Rattle.rp_run.specs.Runs.{run_setting}
use Rattle.rp_run.proofs.run.Run.show.Given as goal

-- the nodes so far are shown
abbrev pub invariant-loop-place : goal.invariant-loop-place
invariant-loop-place g l =
    let m = g.M.Machine in
    Appends (g.W.Write.contents l.fn.writer) (g.W.Write.contents l.writer) (items_text (nodes_items (run_setting m.next m.answers m.begin m.image l.self.cluster l.options) l.self.cluster.world l.place))
