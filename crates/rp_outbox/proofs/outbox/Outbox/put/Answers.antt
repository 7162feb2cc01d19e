use Rattle.std.proofs.Common.{◌∙◌}
use Rattle.rp_outbox.proofs.outbox.Outbox.put.Goals as goal

pub put_short-requires-clause-packet : goal.put_short-requires-clause-packet
put_short-requires-clause-packet c = (c.args.packet.now, (c.body-body.ensures.packet, c.as_slice.ensures.bytes ∙ c.text_of_packet.ensures))

pub returns-clause-sent : goal.returns-clause-sent
returns-clause-sent c = c.put_short.ensures.sent c.args.packet.now (c.body-body.ensures.packet, c.as_slice.ensures.bytes ∙ c.text_of_packet.ensures)
