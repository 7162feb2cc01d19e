use Rattle.std.proofs.Common.{◌≡◌, ◌-◌, ◌+◌, suc, zero, false, List, Err, ap, sym, arith, ◌∙◌}
use Rattle.std.proofs.lemmas.Result.{err_from_is_err_and}
use Rattle.rp_deck_declarations.specs.DeclaredViews.{names_of, program_text}
use Rattle.rp_explore_deck.specs.RuleLines.{truths_at, most_truths}
use Rattle.rp_explore_deck.specs.declared.rules.Truth.{Truth}
use Rattle.rp_words.specs.Words.{unread, is_at_end}
use Rattle.rp_explore_deck.proofs.RuleLemmas.{truths_end, truths_more, truths_bad, truths_full, bad_makes}
use Rattle.rp_explore_deck.proofs.rules.read_more_truths.Goals as goal

pub returns-then-is_at_end : goal.returns-then-is_at_end
returns-then-is_at_end c =
    let d = names_of c.args.declared.now in
    let p = program_text c.args.declared.now.program in
    sym c.loop.invariant ∙ truths_end (most_truths - c.loop.counter) d p c.loop.truths.items (unread c.loop.words) (sym c.is_at_end.ensures ∙ c.if-is_at_end.true)

pub loop-preserved : goal.loop-preserved
loop-preserved c =
    let d = names_of c.args.declared.now in
    let p = program_text c.args.declared.now.program in
    let left = most_truths - (c.loop.counter + 1) in
    let room : most_truths - c.loop.counter ≡ suc left = omega arith in
    let more : is_at_end (unread c.loop.words) ≡ false = sym c.is_at_end.ensures ∙ c.if-is_at_end.false in
    ap (λ (truths : List Truth). truths_at left d p truths (unread c.take_truth.new.words)) c.in_ok-push.ensures.items
    ∙ sym (truths_more (most_truths - c.loop.counter) left d p c.loop.truths.items (unread c.loop.words) _ room more c.in_ok-take_truth.ensures)
    ∙ c.loop.invariant

pub returns-then-is_at_end-2 : goal.returns-then-is_at_end-2
returns-then-is_at_end-2 c =
    let d = names_of c.args.declared.now in
    let p = program_text c.args.declared.now.program in
    sym c.loop.invariant ∙ truths_end (most_truths - c.loop.counter) d p c.loop.truths.items (unread c.loop.words) (sym c.is_at_end-2.ensures ∙ c.if-is_at_end-2.true)

pub returns-else-is_at_end-2 : goal.returns-else-is_at_end-2
returns-else-is_at_end-2 c =
    let d = names_of c.args.declared.now in
    let p = program_text c.args.declared.now.program in
    let none : most_truths - c.loop.counter ≡ zero = omega arith in
    sym c.loop.invariant ∙ truths_full (most_truths - c.loop.counter) d p c.loop.truths.items (unread c.loop.words) none (sym c.is_at_end-2.ensures ∙ c.if-is_at_end-2.false)

pub returns-in_err-take_truth : goal.returns-in_err-take_truth
returns-in_err-take_truth c =
    let d = names_of c.args.declared.now in
    let p = program_text c.args.declared.now.program in
    let left = most_truths - (c.loop.counter + 1) in
    let room : most_truths - c.loop.counter ≡ suc left = omega arith in
    let more : is_at_end (unread c.loop.words) ≡ false = sym c.is_at_end.ensures ∙ c.if-is_at_end.false in
    let failed = err_from_is_err_and c.from_residual.result c.from_residual.ensures.1 in
    bad_makes _ c.from_residual.result c.in_err-take_truth.field-0.0 _ (failed.1 ∙ ap Err failed.2)
    (sym c.loop.invariant ∙ truths_bad (most_truths - c.loop.counter) left d p c.loop.truths.items (unread c.loop.words) c.in_err-take_truth.field-0.0 room more c.in_err-take_truth.ensures)
