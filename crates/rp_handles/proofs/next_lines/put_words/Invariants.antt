use Rattle.std.proofs.Common.{◌≡◌, ◌-◌, ◌++◌, ℕ, List}
use Rattle.rp_deck.specs.rp_words.specs.Words.{unread}
use Rattle.rp_handles.specs.NextLines.{AreFirstWords}
use Rattle.rp_handles.proofs.next_lines.put_words.Given as goal

-- what is put so far, and the words that are left make all
abbrev pub invariant-loop : goal.invariant-loop
invariant-loop l =
    (text : List ℕ) × (l.next.items ≡ l.fn.next.items ++ text)
    × ((after : List ℕ) → AreFirstWords (l.count - l.counter) (unread l.words) after → AreFirstWords l.count (unread l.fn.words) (text ++ after))
