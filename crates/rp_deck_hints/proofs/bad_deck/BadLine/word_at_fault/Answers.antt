-- The words are tried one after another.
use Rattle.std.proofs.Common.{rules, arith, ◌∙◌, ◌≤◌, ap, sym, length}
use Rattle.rp_deck_hints.specs.Places.{after_lines}
use Rattle.rp_deck_hints.proofs.Walking.{at_fault, before_is, begins, goes_on, none_left}
use Rattle.rp_deck_hints.proofs.bad_deck.BadLine.word_at_fault.Goals as goal

pub loop-words-init : goal.loop-words-init
loop-words-init c =
    let rest_is = c.after_lines-rest.ensures.value ∙ ap (after_lines c.args.self.now.text.now) c.saturating_sub.ensures in
    begins c.args.self.now.reading c.args.self.now.text.now c.args.self.now.line c.args.self.now.reason _ _ rest_is c.first_line-line.ensures.value

pub returns-then-is_empty-clause-none : goal.returns-then-is_empty-clause-none
returns-then-is_empty-clause-none c =
    none_left c.args.self.now.reading c.args.self.now.text.now c.args.self.now.line c.args.self.now.reason _ _ _ c.loop-words.words c.loop-words.invariant
    c.from_word-from.ensures.value (sym c.is_empty.ensures ∙ c.if-is_empty.true)

pub overflow_sub-start : goal.overflow_sub-start
overflow_sub-start c = omega (arith, c.from_word-from.ensures.within, c.loop-words.invariant.shorter)

pub overflow_sub-end : goal.overflow_sub-end
overflow_sub-end c = omega (arith, c.split_word.ensures.within, c.from_word-from.ensures.within, c.loop-words.invariant.shorter)

pub returns-then-branch-clause-found : goal.returns-then-branch-clause-found
returns-then-branch-clause-found c =
    let rest_is = c.after_lines-rest.ensures.value ∙ ap (after_lines c.args.self.now.text.now) c.saturating_sub.ensures in
    at_fault c.args.self.now.reading c.args.self.now.text.now c.args.self.now.line c.args.self.now.reason _ _ rest_is c.first_line-line.ensures.value
    _ _ c.loop-words.words c.loop-words.invariant c.from_word-from.ensures.value _ c.split_word.ensures.rest _ c.split_word.ensures.word
    (sym c.is_empty.ensures ∙ c.if-is_empty.false) (search rules)

pub returns-then-branch-clause-before : goal.returns-then-branch-clause-before
returns-then-branch-clause-before c =
    let rest_is = c.after_lines-rest.ensures.value ∙ ap (after_lines c.args.self.now.text.now) c.saturating_sub.ensures in
    before_is c.args.self.now.reading c.args.self.now.text.now c.args.self.now.line c.args.self.now.reason _ _ rest_is c.first_line-line.ensures.value
    _ _ c.loop-words.words c.loop-words.invariant c.from_word-from.ensures.value

pub loop-words-preserved : goal.loop-words-preserved
loop-words-preserved c =
    let rest_is = c.after_lines-rest.ensures.value ∙ ap (after_lines c.args.self.now.text.now) c.saturating_sub.ensures in
    let shorter : length c.split_word.result.1.now ≤ length c.first_line-line.result.now = omega (arith, c.split_word.ensures.within, c.from_word-from.ensures.within, c.loop-words.invariant.shorter) in
    goes_on c.args.self.now.reading c.args.self.now.text.now c.args.self.now.line c.args.self.now.reason _ _ rest_is c.first_line-line.ensures.value
    _ _ c.loop-words.words c.loop-words.invariant c.from_word-from.ensures.value _ c.split_word.ensures.rest shorter (search rules)

pub returns-clause-none : goal.returns-clause-none
returns-clause-none c n one most there = c.loop-words.invariant.none n one (omega (arith, most, c.loop-words-test.false))
