use Rattle.rp_model.specs.rp_codec.specs.Usual.{promise_at}
use Rattle.rp_outbox.proofs.Placed.{promise_is_packet}
use Rattle.rp_outbox.proofs.outbox.Outbox.promise.Goals as goal

pub put_short-requires-clause-packet : goal.put_short-requires-clause-packet
put_short-requires-clause-packet c = (promise_at c.args.header, (promise_is_packet c.args.header c.header_in_range.ensures, c.promise_text.ensures))
