use Rattle.std.proofs.Common.{List, ℕ, sym, ap, append-nil, ◌∙◌}
use Rattle.rp_run.specs.Output.{names_of}
use Rattle.rp_output.specs.FaultMessage.{with_line_feed}
use Rattle.rp_output.specs.PartyText.{shown_party}
use Rattle.rp_output.specs.Trace.{party_text_of, trace_line_of}
use Rattle.rp_output.proofs.Writing.{writes_same}
use Rattle.rp_run.proofs.effects.print_packet.Goals as goal

pub returns-clause-printed : goal.returns-clause-printed
returns-clause-printed g c =
    let names = names_of c.args.tasks.now in
    let from = c.party_text.ensures ∙ ap (party_text_of names) c.from.ensures in
    let to = c.party_text-2.ensures ∙ ap (party_text_of names) c.to.ensures in
    writes_same _ _ _ _ c.print.result
    (ap (λ (l : List ℕ). with_line_feed (trace_line_of c.args.number l (shown_party c.party_text-2.result) c.body.result.now)) from
    ∙ ap (λ (l : List ℕ). with_line_feed (trace_line_of c.args.number (party_text_of names c.args.packet.now.from) l c.body.result.now)) to
    ∙ ap (λ b. with_line_feed (trace_line_of c.args.number (party_text_of names c.args.packet.now.from) (party_text_of names c.args.packet.now.to) b)) c.body.ensures.value
    ∙ sym (append-nil _))
    c.print.ensures.printed
