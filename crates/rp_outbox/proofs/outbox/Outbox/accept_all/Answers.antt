use Rattle.std.proofs.Common.{ℕ, subst}
use Rattle.rp_model.specs.rp_codec.specs.declared.packet.Body.TheVariants.{Accept}
use Rattle.rp_model.specs.Says.{says}
use Rattle.rp_outbox.specs.Packets.{IsTextOf}
use Rattle.rp_outbox.proofs.Placed.{accept_is_packet}
use Rattle.rp_outbox.proofs.outbox.Outbox.accept_all.Goals as goal

pub put_to_all-requires-clause-packet : goal.put_to_all-requires-clause-packet
put_to_all-requires-clause-packet c =
    let header = c.args.header in
    let body = Accept header.position header.ballot c.args.action.now in
    (header.from, (body, subst (λ (to : ℕ). IsTextOf c.accept_text.result (says header.from body to)) c.requires.itself (accept_is_packet header c.header_in_range.ensures c.args.action.now c.requires.right, c.accept_text.ensures)))

pub returns-then-is_call-clause-sent : goal.returns-then-is_call-clause-sent
returns-then-is_call-clause-sent c =
    let header = c.args.header in
    let body = Accept header.position header.ballot c.args.action.now in
    c.put_to_all.ensures.sent header.from body (subst (λ (to : ℕ). IsTextOf c.accept_text.result (says header.from body to)) c.requires.itself (accept_is_packet header c.header_in_range.ensures c.args.action.now c.requires.right, c.accept_text.ensures))
