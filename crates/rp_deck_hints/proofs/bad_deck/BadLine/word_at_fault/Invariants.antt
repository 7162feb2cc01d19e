use Rattle.rp_deck_hints.proofs.Walking.{HasTried}
use Rattle.rp_deck_hints.proofs.bad_deck.BadLine.word_at_fault.Given as goal

abbrev pub invariant-loop-words : goal.invariant-loop-words
invariant-loop-words l =
    HasTried l.fn.self.reading l.fn.self.text.now l.fn.self.line l.fn.self.reason l.line l.after l.words
