-- The line of the number, and the image after it.
use Rattle.std.proofs.Common.{◌≤◌, ◌++◌, List, ℕ, rules, arith, sym, ap, subst, ◌∙◌}
use Rattle.rp_model.specs.World.{part_at}
use Rattle.rp_output.specs.Printed.{applied_line_of}
use Rattle.rp_run.specs.Runs.{run_setting}
use Rattle.rp_output.specs.FaultMessage.{with_line_feed}
use Rattle.rp_output.specs.Stream.{Begins}
use Rattle.rp_run.proofs.Refusing.{part_there}
use Rattle.rp_run.proofs.PrintedNames.{begins_by_count, whole_text, stopped_text}
use Rattle.rp_output.proofs.Writing.{writes_failed, writes_same, writes_after, begins_longer, begins_whole}
use Rattle.rp_run.proofs.run.Run.show_node.Goals as goal

pub returns-in_err-print-in-Ok-clause-shown : goal.returns-in_err-print-in-Ok-clause-shown
returns-in_err-print-in-Ok-clause-shown g c =
    let m = g.M.Machine in
    let cluster = c.args.self.now.cluster in
    let begins = begins_by_count (run_setting m.next m.answers m.begin m.image cluster c.args.options.now) c.args.node c.in-Ok.applied (part_at cluster.world.nodes c.args.node) c.in-Ok.ensures in
    writes_failed _ _ _ c.from_residual.result c.from_residual.ensures.0
    (subst (λ (l : List ℕ). Begins (g.W.Write.contents c.args.writer.now) (g.W.Write.contents c.print.new.writer) l) (sym begins.1)
    (begins_longer _ _ (with_line_feed (applied_line_of c.args.node c.in-Ok.applied)) begins.0 (rw c.from.ensures at c.in_err-print-in-Ok.ensures.printed)))

pub returns-in_err-image-in-Ok-clause-shown : goal.returns-in_err-image-in-Ok-clause-shown
returns-in_err-image-in-Ok-clause-shown g c =
    let m = g.M.Machine in
    let cluster = c.args.self.now.cluster in
    let begins = begins_by_count (run_setting m.next m.answers m.begin m.image cluster c.args.options.now) c.args.node c.in-Ok.applied (part_at cluster.world.nodes c.args.node) c.in-Ok.ensures in
    writes_failed _ _ _ c.from_residual-in_err-image-in-Ok.result c.from_residual-in_err-image-in-Ok.ensures.0
    (subst (λ (l : List ℕ). Begins (g.W.Write.contents c.args.writer.now) (g.W.Write.contents c.print.new.writer) l) (sym begins.1)
    (begins_whole _ _ (with_line_feed (applied_line_of c.args.node c.in-Ok.applied)) begins.0 (rw c.from.ensures at c.in_ok-print-in-Ok.ensures.printed)))

pub returns-in_ok-image-in-Ok-clause-shown : goal.returns-in_ok-image-in-Ok-clause-shown
returns-in_ok-image-in-Ok-clause-shown g c =
    let m = g.M.Machine in
    let cluster = c.args.self.now.cluster in
    let line = with_line_feed (applied_line_of c.args.node c.in-Ok.applied) in
    let whole = whole_text (run_setting m.next m.answers m.begin m.image cluster c.args.options.now) c.args.node c.in-Ok.applied c.in_ok-image-in-Ok.image (part_at cluster.world.nodes c.args.node)
    c.in-Ok.ensures c.in_ok-image-in-Ok.ensures in
    writes_same _ _ _ _ c.write_whole.result (ap (λ (l : List ℕ). line ++ l) c.deref.ensures.value ∙ sym whole)
    (writes_after _ _ _ line _ c.write_whole.result (rw c.from.ensures at c.in_ok-print-in-Ok.ensures.printed) c.write_whole.ensures.written)

pub returns-in-Err-clause-shown : goal.returns-in-Err-clause-shown
returns-in-Err-clause-shown g c =
    let m = g.M.Machine in
    let cluster = c.args.self.now.cluster in
    let one : 1 ≤ c.args.node = search rules in
    let there = part_there cluster.world.nodes c.args.node one (omega (arith, c.requires.node, c.requires.parts.nodes_there)) in
    writes_same _ _ _ _ c.print-in-Err.result
    (sym (stopped_text (run_setting m.next m.answers m.begin m.image cluster c.args.options.now) c.args.node c.in-Err.field-0 (part_at cluster.world.nodes c.args.node) there.0 there.1 c.in-Err.ensures))
    c.print-in-Err.ensures.printed
