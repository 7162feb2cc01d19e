use Rattle.std.proofs.Common.{sym, ap, append-nil, ◌∙◌}
use Rattle.rp_run.specs.Items.{notes_text}
use Rattle.rp_run.specs.Output.{full_notes}
use Rattle.rp_output.proofs.Writing.{writes_nothing, writes_same}
use Rattle.rp_run.proofs.effects.print_full.Goals as goal

pub returns-in_err-node-clause-printed : goal.returns-in_err-node-clause-printed
returns-in_err-node-clause-printed g c = writes_nothing _ _ c.from_residual.result c.from_residual.ensures.0

pub returns-in-Some-clause-printed : goal.returns-in-Some-clause-printed
returns-in-Some-clause-printed g c =
    writes_same _ _ _ _ c.print.result (sym (append-nil _) ∙ ap (λ node. notes_text (full_notes node)) (sym c.in-Some.is ∙ c.in_ok-node.ensures.node)) c.print.ensures.printed
