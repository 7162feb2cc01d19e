use Rattle.std.proofs.Common.{◌≡◌, ◌++◌, ℕ, List, length}
use Rattle.rp_deck.specs.rp_words.specs.Ahead.{left, ahead}
use Rattle.rp_deck.specs.rp_words.specs.Lines.{lines_of, texts_from}
use Rattle.rp_handles.specs.NextLines.{AreNextLines}
use Rattle.rp_handles.proofs.next_lines.put_lines.Given as goal

-- what is put so far, and the lines that are left make all
abbrev pub invariant-loop-next : goal.invariant-loop-next
invariant-loop-next l =
    (text : List ℕ) × (l.next.items ≡ l.fn.next.items ++ text)
    × ((after : List ℕ) → AreNextLines (ahead l.lines) after → AreNextLines (texts_from 1 (lines_of l.deck)) (text ++ after))

abbrev pub decreases-loop-next : goal.decreases-loop-next
decreases-loop-next l = length (left l.lines)
