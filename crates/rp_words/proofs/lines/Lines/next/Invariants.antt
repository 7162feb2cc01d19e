use Rattle.std.proofs.Common.{◌≡◌, ◌≤◌, length}
use Rattle.rp_words.specs.Ahead.{left, ahead, after_last}
use Rattle.rp_words.proofs.lines.Lines.next.Given as goal

-- what was passed holds no words
abbrev pub invariant-loop-line : goal.invariant-loop-line
invariant-loop-line l = record {
  ahead : ahead l.self ≡ ahead l.fn.self;
  last : after_last l.self ≡ after_last l.fn.self;
  shorter : length (left l.self) ≤ length (left l.fn.self);
}

abbrev pub decreases-loop-line : goal.decreases-loop-line
decreases-loop-line l = length (left l.self)
