use Rattle.std.proofs.Common.{ℕ, subst}
use Rattle.rp_model.specs.rp_codec.specs.declared.packet.Body.TheVariants.{Prepare}
use Rattle.rp_model.specs.Says.{says}
use Rattle.rp_outbox.specs.Packets.{IsTextOf}
use Rattle.rp_outbox.proofs.Placed.{prepare_is_packet}
use Rattle.rp_outbox.proofs.outbox.Outbox.prepare_all.Goals as goal

pub put_to_all-requires-clause-packet : goal.put_to_all-requires-clause-packet
put_to_all-requires-clause-packet c =
    let header = c.args.header in
    let body = Prepare header.position header.ballot in
    (header.from, (body, subst (λ (to : ℕ). IsTextOf c.prepare_text.result (says header.from body to)) c.requires.itself (prepare_is_packet header c.header_in_range.ensures, c.prepare_text.ensures)))

pub returns-clause-sent : goal.returns-clause-sent
returns-clause-sent c =
    let header = c.args.header in
    let body = Prepare header.position header.ballot in
    c.put_to_all.ensures.sent header.from body (subst (λ (to : ℕ). IsTextOf c.prepare_text.result (says header.from body to)) c.requires.itself (prepare_is_packet header c.header_in_range.ensures, c.prepare_text.ensures))
