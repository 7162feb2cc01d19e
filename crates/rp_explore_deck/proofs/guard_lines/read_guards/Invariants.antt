use Rattle.std.proofs.Common.{◌≡◌, [], length}
use Rattle.rp_deck.specs.Meaning.{texts_of}
use Rattle.rp_deck_declarations.specs.DeclaredViews.{names_of}
use Rattle.rp_explore_deck.specs.AddedLines.{read_lines}
use Rattle.rp_explore_deck.specs.GuardLines.{guard_line}
use Rattle.rp_words.specs.Ahead.{left, ahead}
use Rattle.rp_explore_deck.proofs.guard_lines.read_guards.Given as goal

-- those read and those of the lines that are left are all
abbrev pub invariant-loop-line : goal.invariant-loop-line
invariant-loop-line l =
    read_lines l.numbers.keys (guard_line (names_of l.declared)) l.guards.items (ahead l.lines)
    ≡ read_lines l.numbers.keys (guard_line (names_of l.declared)) [] (texts_of l.text)

abbrev pub decreases-loop-line : goal.decreases-loop-line
decreases-loop-line l = length (left l.lines)
