-- One node more, or the end.
use Rattle.std.proofs.Common.{◌+◌, List, ℕ, get_or, rules, arith, sym, subst}
use Rattle.std.specs.Io.KnownBytes.{Appends}
use Rattle.std.proofs.KnownBytes.{Appends-nil}
use Rattle.rp_live_run.specs.LiveOutput.{node_text}
use Rattle.rp_output.specs.Stream.{Begins}
use Rattle.rp_live_run.proofs.LivePrinting.{applied_next, applied_end}
use Rattle.rp_output.proofs.Writing.{writes_failed, wrote_nothing, wrote_more, wrote_some, wrote_all}
use Rattle.rp_live_run.proofs.live_output.print_applied.Goals as goal

pub loop-count-init : goal.loop-count-init
loop-count-init g c = record { number = search rules; so_far = wrote_nothing _ _ }

pub returns-in_err-print_node-clause-printed : goal.returns-in_err-print_node-clause-printed
returns-in_err-print_node-clause-printed g c =
    let before = g.W.Write.contents c.loop-count.writer in
    let after = g.W.Write.contents c.print_node.new.writer in
    let count = get_or c.args.applied.now c.loop-count.count-index 0 in
    let printed : Begins before after (node_text (c.loop-count.count-index + 1) count) =
    subst (λ (n : ℕ). Begins before after (node_text (n + 1) count)) c.loop-count.invariant.number c.in_err-print_node.ensures.printed in
    writes_failed _ _ _ c.from_residual.result c.from_residual.ensures.0
    (wrote_some _ _ _ _ _ c.loop-count.invariant.so_far _ _ (applied_next c.args.applied.now c.loop-count.count-index 0 (omega arith)) printed)

pub loop-count-preserved : goal.loop-count-preserved
loop-count-preserved g c =
    let before = g.W.Write.contents c.loop-count.writer in
    let after = g.W.Write.contents c.print_node.new.writer in
    let count = get_or c.args.applied.now c.loop-count.count-index 0 in
    let printed : Appends before after (node_text (c.loop-count.count-index + 1) count) =
    subst (λ (n : ℕ). Appends before after (node_text (n + 1) count)) c.loop-count.invariant.number c.in_ok-print_node.ensures.printed in
    record {
      number = omega (arith, c.loop-count.invariant.number);
      so_far = wrote_more _ _ _ _ _ c.loop-count.invariant.so_far _ _ (applied_next c.args.applied.now c.loop-count.count-index 0 (omega arith)) printed;
    }

pub returns-clause-printed : goal.returns-clause-printed
returns-clause-printed g c =
    let now = g.W.Write.contents c.loop-count.writer in
    let ended = applied_end c.args.applied.now c.loop-count.count-index (omega arith) in
    wrote_all _ _ _ _ _ c.loop-count.invariant.so_far (subst (λ (l : List ℕ). Appends now now l) (sym ended) (Appends-nil now))
