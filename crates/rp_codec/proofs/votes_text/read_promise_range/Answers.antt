use Rattle.std.proofs.Common.{refl}
use Rattle.rp_codec.specs.declared.packet.Body.TheVariants.{PromiseRange}
use Rattle.rp_codec.proofs.VotesReading.{promise_range_found}
use Rattle.rp_codec.proofs.votes_text.read_promise_range.Goals as goal

pub returns : goal.returns
returns c =
    let votes = c.in_ok-skip_votes.ensures.0 in
    let found = promise_range_found c.args.version c.args.reader.now c.read_range_place.new.reader c.again-votes.result c.skip_votes.new.reader c.in_ok-range.range c.in_ok-range.ballot votes
    c.in_ok-range.ensures c.again-votes.ensures c.in_ok-skip_votes.ensures.1 in
    (PromiseRange c.in_ok-range.range c.in_ok-range.ballot votes, (votes, found.0, refl), found.1)
