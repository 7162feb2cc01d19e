use Rattle.std.proofs.Common.{sym, ap, append-nil, ◌∙◌}
use Rattle.rp_run.specs.Items.{items_text}
use Rattle.rp_run.specs.Output.{names_of, taken_items}
use Rattle.rp_output.proofs.Writing.{writes_same}
use Rattle.rp_run.proofs.effects.print_taken.Goals as goal

pub returns-in-Some-clause-printed : goal.returns-in-Some-clause-printed
returns-in-Some-clause-printed g c =
    writes_same _ _ _ _ c.print_reply.result (sym (ap (λ taken. items_text (taken_items (names_of c.args.tasks.now) taken)) c.in-Some.is ∙ append-nil _)) c.print_reply.ensures.printed
