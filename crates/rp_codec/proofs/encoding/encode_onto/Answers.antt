use Rattle.std.proofs.Common.{◌<◌, length, sym, ◌∙◌}
use Rattle.rp_codec.proofs.VotesLaws.{few_votes}
use Rattle.rp_codec.proofs.encoding.encode_onto.Goals as goal

pub put_list-requires-in-PromiseRange : goal.put_list-requires-in-PromiseRange
put_list-requires-in-PromiseRange c =
    let few : length c.in-PromiseRange.votes < 256 =
    few_votes c.args.packet.now c.in-PromiseRange.range c.in-PromiseRange.ballot c.in-PromiseRange.votes c.body.ensures.packet (sym c.body-2.ensures.value ∙ c.in-PromiseRange.is) in
    rw c.as_slice-in-PromiseRange.ensures few
