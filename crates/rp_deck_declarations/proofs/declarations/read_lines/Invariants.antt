use Rattle.std.proofs.Common.{◌≡◌, length}
use Rattle.rp_words.specs.Ahead.{left, ahead, after_last}
use Rattle.rp_deck_declarations.specs.Declarations.{IsDraft}
use Rattle.rp_deck_declarations.specs.Declaring.{declarations_from}
use Rattle.rp_deck_declarations.specs.DraftViews.{draft_text}
use Rattle.rp_deck_declarations.proofs.declarations.read_lines.Given as goal

-- what was read before leaves the same to be said
abbrev pub invariant-loop-line : goal.invariant-loop-line
invariant-loop-line l = record {
  draft : IsDraft l.draft;
  last : after_last l.lines ≡ after_last l.initial.lines;
  same : declarations_from (after_last l.initial.lines) (draft_text l.draft) (ahead l.lines) ≡ declarations_from (after_last l.initial.lines) (draft_text l.initial.draft) (ahead l.initial.lines);
}

abbrev pub decreases-loop-line : goal.decreases-loop-line
decreases-loop-line l = length (left l.lines)
