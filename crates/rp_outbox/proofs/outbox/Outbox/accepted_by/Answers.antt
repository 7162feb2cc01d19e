use Rattle.rp_model.specs.rp_codec.specs.Usual.{accepted_at}
use Rattle.rp_outbox.proofs.Placed.{accepted_is_packet}
use Rattle.rp_outbox.proofs.outbox.Outbox.accepted_by.Goals as goal

pub put_short-requires-clause-packet : goal.put_short-requires-clause-packet
put_short-requires-clause-packet c =
    let action = c.args.action.now in
    (accepted_at c.args.header action, (accepted_is_packet c.args.header c.header_in_range.ensures action c.requires.right, c.accepted_by.ensures.vote action c.requires.tail))

pub returns-clause-sent : goal.returns-clause-sent
returns-clause-sent c =
    let action = c.args.action.now in
    c.put_short.ensures.sent (accepted_at c.args.header action) (accepted_is_packet c.args.header c.header_in_range.ensures action c.requires.right, c.accepted_by.ensures.vote action c.requires.tail)
