use Rattle.std.proofs.Common.{◌≡◌, [], length, map}
use Rattle.rp_deck.specs.Meaning.{texts_of}
use Rattle.rp_deck_declarations.specs.DeclaredViews.{names_of, program_text}
use Rattle.rp_explore_deck.specs.AddedLines.{read_lines}
use Rattle.rp_explore_deck.specs.RuleLines.{rule_line}
use Rattle.rp_explore_deck.specs.RuleViews.{placed_rule_text}
use Rattle.rp_words.specs.Ahead.{left, ahead}
use Rattle.rp_explore_deck.proofs.rules.read_rules.Given as goal

-- those read and those of the lines that are left are all
abbrev pub invariant-loop-line : goal.invariant-loop-line
invariant-loop-line l =
    let read = rule_line (names_of l.declared) (program_text l.declared.program) in
    read_lines l.numbers.keys read (map placed_rule_text l.rules.items) (ahead l.lines)
    ≡ read_lines l.numbers.keys read [] (texts_of l.text)

abbrev pub decreases-loop-line : goal.decreases-loop-line
decreases-loop-line l = length (left l.lines)
