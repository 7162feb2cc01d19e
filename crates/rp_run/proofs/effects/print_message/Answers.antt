use Rattle.std.proofs.Common.{sym, ap, ◌∙◌}
use Rattle.std.specs.Prelude.{option_to_list}
use Rattle.rp_run.specs.Items.{notes_text}
use Rattle.rp_run.specs.Output.{names_of, trace_notes}
use Rattle.rp_output.proofs.Writing.{writes_nothing, writes_same}
use Rattle.rp_run.proofs.effects.print_message.Goals as goal

pub returns-in-Some-clause-printed : goal.returns-in-Some-clause-printed
returns-in-Some-clause-printed g c =
    writes_same _ _ _ _ c.print_packet.result
    (ap (λ packet. notes_text (trace_notes (names_of c.args.tasks.now) c.args.number (option_to_list packet))) (sym c.in-Some.is ∙ c.in_ok-packet.ensures.packet)) c.print_packet.ensures.printed

pub returns-in_err-packet-clause-printed : goal.returns-in_err-packet-clause-printed
returns-in_err-packet-clause-printed g c = writes_nothing _ _ c.from_residual.result c.from_residual.ensures.0
