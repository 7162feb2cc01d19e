use Rattle.std.proofs.Common.{ap, subst, ◌∙◌}
use Rattle.rp_model.specs.rp_codec.specs.Message.{IsPacket}
use Rattle.rp_model.specs.rp_codec.specs.Text.{text_of}
use Rattle.rp_outbox.proofs.outbox.Outbox.say_to_others.Goals as goal

pub put_to_others-requires-clause-packet : goal.put_to_others-requires-clause-packet
put_to_others-requires-clause-packet c =
    (c.args.body, (subst IsPacket c.new-packet.ensures c.body-body.ensures.packet, c.as_slice.ensures.bytes ∙ c.text_of_packet.ensures ∙ ap text_of c.new-packet.ensures))

pub returns-clause-sent : goal.returns-clause-sent
returns-clause-sent c =
    c.put_to_others.ensures.sent c.args.body
    (subst IsPacket c.new-packet.ensures c.body-body.ensures.packet, c.as_slice.ensures.bytes ∙ c.text_of_packet.ensures ∙ ap text_of c.new-packet.ensures)
