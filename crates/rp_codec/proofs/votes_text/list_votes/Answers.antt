use Rattle.std.proofs.Common.{◌≡◌, ℕ, suc, ◌+◌, sym, ap, ◌∙◌, arith}
use Rattle.rp_base.specs.declared.placed.PlacedVote.{PlacedVote}
use Rattle.rp_base.specs.Ranges.{end_of}
use Rattle.rp_codec.specs.Reading.{votes_at, reported_votes_at}
use Rattle.rp_codec.proofs.ListReading.{no_fault, same_list}
use Rattle.rp_codec.proofs.VotesReading.{one_more_vote, fault_vote, all_votes_read, no_count, no_votes_fault, counted_votes}
use Rattle.rp_codec.proofs.votes_text.list_votes.Goals as goal

pub unreachable-requires : goal.unreachable-requires
unreachable-requires c =
    no_fault (reported_votes_at c.args.version c.args.range c.args.ballot c.args.reader) c.in_default.field-0 (no_count c.args.version c.args.range c.args.ballot c.args.reader c.in_default.field-0 c.in_default.ensures) c.requires

pub unreachable-requires-in-Err : goal.unreachable-requires-in-Err
unreachable-requires-in-Err c =
    let (text, counted, has) = c.loop.invariant.read in
    no_votes_fault c.args.version c.args.range c.args.ballot c.end-end.result c.args.reader text c.in-Ok.count c.in-Err.field-0 counted c.end-end.ensures.value
    (fault_vote c.args.version c.args.ballot c.end-end.result c.args.range.first c.in-Ok.count text c.loop.counter c.loop.first c.loop.votes.items c.loop.reader c.in-Err.field-0 has c.loop-test.true c.in-Err.ensures) c.requires

pub loop-preserved : goal.loop-preserved
loop-preserved c =
    let (text, counted, has) = c.loop.invariant.read in
    let placed : PlacedVote = record { position = c.in-Ok-read_reported.read.0; vote = record { ballot = c.in-Ok-read_reported.read.1; action = c.in-Ok-read_reported.read.2 } } in
    let follows : c.from-first-in-Ok-read_reported.result + 1 ≡ suc c.in-Ok-read_reported.read.0 = omega (arith, c.from-first-in-Ok-read_reported.ensures, c.get-in-Ok-read_reported.ensures.value) in
    record {
      read = (text, counted, rw c.push_reserved.ensures.items (one_more_vote c.args.version c.args.ballot c.end-end.result c.args.range.first c.in-Ok.count text c.loop.counter c.loop.first c.loop.votes.items c.loop.reader placed c.read_reported.new.reader (c.from-first-in-Ok-read_reported.result + 1) has c.loop-test.true c.in-Ok-read_reported.ensures follows));
      filled = omega arith;
      room = omega arith;
    }

pub returns : goal.returns
returns c = λ votes after e.
    let (text, counted, has) = c.loop.invariant.read in
    let whole = all_votes_read c.args.version c.args.ballot c.end-end.result c.args.range.first c.in-Ok.count text c.loop.counter c.loop.first c.loop.votes.items c.loop.reader has (omega (arith, c.loop-test.false)) in
    let read = counted_votes c.args.version c.args.range c.args.ballot c.args.reader text c.in-Ok.count votes after counted e in
    rw c.from_vec.ensures (same_list (votes_at c.args.version c.args.ballot (end_of c.args.range) c.args.range.first c.in-Ok.count text) c.loop.votes.items c.loop.reader (ap (λ (k : ℕ). votes_at c.args.version c.args.ballot k c.args.range.first c.in-Ok.count text) (sym c.end-end.ensures.value) ∙ whole) votes after read)
