use Rattle.std.proofs.Common.{◌≡◌, ◌≤◌, ℕ, List, Ok, vec_len, vec_capacity}
use Rattle.rp_codec.specs.Reading.{byte_at}
use Rattle.rp_codec.proofs.VotesReading.{HasVotes}
use Rattle.rp_codec.proofs.votes_text.list_votes.Given as goal

-- those that were read, and room for the others
abbrev pub invariant-loop : goal.invariant-loop
invariant-loop l = record {
  read : (text : List ℕ) × (byte_at l.fn.reader ≡ Ok (l.count, text)) × HasVotes l.version l.ballot l.end l.fn.range.first l.count text l.counter l.first l.votes.items l.reader;
  filled : vec_len l.votes ≡ l.counter;
  room : l.count ≤ vec_capacity l.votes;
}
