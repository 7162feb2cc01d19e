use Rattle.std.proofs.Common.{List}
use Rattle.rp_base.specs.declared.placed.PlacedVote.{PlacedVote}
use Rattle.rp_codec.proofs.VotesReading.{HasVotes}
use Rattle.rp_codec.proofs.votes_text.skip_each.Given as goal

abbrev pub invariant-loop : goal.invariant-loop
invariant-loop l = (front : List PlacedVote) × HasVotes l.version l.ballot l.end l.fn.range.first l.count l.fn.reader l.counter l.first front l.reader
