use Rattle.std.proofs.Common.{◌≡◌, ◌-◌}
use Rattle.rp_deck_declarations.specs.DeclaredViews.{names_of, program_text}
use Rattle.rp_explore_deck.specs.RuleLines.{truths_at, most_truths}
use Rattle.rp_words.specs.Words.{unread}
use Rattle.rp_explore_deck.proofs.rules.read_more_truths.Given as goal

-- those read and those of the words that are left are all
abbrev pub invariant-loop : goal.invariant-loop
invariant-loop l =
    let d = names_of l.declared in
    let p = program_text l.declared.program in
    truths_at (most_truths - l.counter) d p l.truths.items (unread l.words)
    ≡ truths_at most_truths d p l.fn.truths.items (unread l.fn.words)
