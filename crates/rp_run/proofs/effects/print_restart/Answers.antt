use Rattle.std.proofs.Common.{sym, ap₂, append-nil, ◌∙◌}
use Rattle.rp_run.specs.Items.{notes_text}
use Rattle.rp_run.specs.Output.{opened_notes}
use Rattle.rp_output.proofs.Writing.{writes_same}
use Rattle.rp_run.proofs.effects.print_restart.Goals as goal

pub returns-in-Some-clause-printed : goal.returns-in-Some-clause-printed
returns-in-Some-clause-printed g c =
    writes_same _ _ _ _ c.print.result (sym (ap₂ (λ event opened. notes_text (opened_notes event opened)) c.in-Restart.is c.in-Some.is ∙ append-nil _)) c.print.ensures.printed

pub returns-in-None-clause-printed : goal.returns-in-None-clause-printed
returns-in-None-clause-printed g c =
    writes_same _ _ _ _ c.print-in-None.result (sym (ap₂ (λ event opened. notes_text (opened_notes event opened)) c.in-Restart.is c.in-None.is ∙ append-nil _)) c.print-in-None.ensures.printed
