use Rattle.rp_model.specs.rp_codec.specs.Usual.{accepted_at}
use Rattle.rp_outbox.proofs.Placed.{accepted_is_packet}
use Rattle.rp_outbox.proofs.outbox.Outbox.accepted.Goals as goal

pub put_short-requires-clause-packet : goal.put_short-requires-clause-packet
put_short-requires-clause-packet c =
    (accepted_at c.args.header c.args.action.now, (accepted_is_packet c.args.header c.header_in_range.ensures c.args.action.now c.requires.right, c.accepted_text.ensures))
