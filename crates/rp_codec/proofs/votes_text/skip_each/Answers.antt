use Rattle.std.proofs.Common.{◌≡◌, ℕ, suc, ◌+◌, [], ◌∷◌, ◌++◌, sym, ap, ◌∙◌, rules, arith}
use Rattle.rp_base.specs.declared.placed.PlacedVote.{PlacedVote}
use Rattle.rp_codec.specs.Reading.{votes_at}
use Rattle.rp_codec.proofs.VotesReading.{begun, one_more_vote, fault_vote, all_votes_read}
use Rattle.rp_codec.proofs.votes_text.skip_each.Goals as goal

pub loop-init : goal.loop-init
loop-init c = ([], begun c.args.version c.args.ballot c.end-end.result c.args.range.first c.args.count c.args.reader.now c.from-first.result (omega (arith, c.from-first.ensures, c.get.ensures.value, c.first.ensures.value)))

pub returns-in_err-position : goal.returns-in_err-position
returns-in_err-position c =
    let stopped = ap (λ (k : ℕ). votes_at c.args.version c.args.ballot k c.args.range.first c.args.count c.args.reader.now) (sym c.end-end.ensures.value)
    ∙ fault_vote c.args.version c.args.ballot c.end-end.result c.args.range.first c.args.count c.args.reader.now c.loop.counter c.loop.first c.loop.invariant.0 c.loop.reader c.in_err-position.field-0.0 c.loop.invariant.1 c.loop-test.true c.in_err-position.ensures in
    search rules

pub loop-preserved : goal.loop-preserved
loop-preserved c =
    let placed : PlacedVote = record { position = c.in_ok-position.position; vote = record { ballot = c.in_ok-position.field-0-1; action = c.in_ok-position.field-0-2 } } in
    let follows : c.from-first-in-loop.result + 1 ≡ suc c.in_ok-position.position = omega (arith, c.from-first-in-loop.ensures, c.get-in-loop.ensures.value) in (
      c.loop.invariant.0 ++ placed ∷ [],
      one_more_vote c.args.version c.args.ballot c.end-end.result c.args.range.first c.args.count c.args.reader.now c.loop.counter c.loop.first c.loop.invariant.0 c.loop.reader placed c.read_reported.new.reader (c.from-first-in-loop.result + 1) c.loop.invariant.1 c.loop-test.true c.in_ok-position.ensures follows,
    )

pub returns : goal.returns
returns c = (
  c.loop.invariant.0,
  ap (λ (k : ℕ). votes_at c.args.version c.args.ballot k c.args.range.first c.args.count c.args.reader.now) (sym c.end-end.ensures.value)
      ∙ all_votes_read c.args.version c.args.ballot c.end-end.result c.args.range.first c.args.count c.args.reader.now c.loop.counter c.loop.first c.loop.invariant.0 c.loop.reader c.loop.invariant.1 (omega (arith, c.loop-test.false)),
)
