-- The lines that are put and those that are left make all.
use Rattle.std.proofs.Common.{◌≡◌, ℕ, List, ◌++◌, ap, ◌∙◌, sym, append_assoc, false}
use Rattle.std.specs.Prelude.{codes}
use Rattle.std.specs.Str.{bytes_eq}
use Rattle.rp_deck.specs.rp_words.specs.Ahead.{ahead, text_of}
use Rattle.rp_deck.specs.rp_words.specs.Lines.{lines_of, texts_from}
use Rattle.rp_handles.specs.NextLines.{AreNextLines}
use Rattle.rp_handles.proofs.Putting.{no_line, one_line}
use Rattle.rp_handles.proofs.next_lines.put_lines.Goals as goal

abbrev All : List ℕ → List ℕ → Type 0
All deck text = AreNextLines (texts_from 1 (lines_of deck)) text

pub loop-next-preserved-then-is_word-2 : goal.loop-next-preserved-then-is_word-2
loop-next-preserved-then-is_word-2 c =
    let i = c.loop-next.invariant in
    let here = c.in_ok-name.ensures in
    let other : bytes_eq c.in-Some.line.first.now (codes "script") ≡ false = sym c.if-is_word.ensures in (
      i.0 ++ here.0,
      here.2 ∙ ap (λ (l : List ℕ). l ++ here.0) i.1 ∙ append_assoc c.args.next.now.items i.0 here.0,
      one_line (All c.args.deck.now) (ahead c.loop-next.lines) i.0 i.2 (text_of c.in-Some.line) (ahead c.next.new.self) here.0 c.in-Some.ensures.next other here.1,
    )

pub loop-next-preserved : goal.loop-next-preserved
loop-next-preserved c =
    let i = c.loop-next.invariant in
    let here = c.in_ok-name.ensures in
    let other : bytes_eq c.in-Some.line.first.now (codes "script") ≡ false = sym c.if-is_word.ensures in (
      i.0 ++ here.0,
      here.2 ∙ ap (λ (l : List ℕ). l ++ here.0) i.1 ∙ append_assoc c.args.next.now.items i.0 here.0,
      one_line (All c.args.deck.now) (ahead c.loop-next.lines) i.0 i.2 (text_of c.in-Some.line) (ahead c.next.new.self) here.0 c.in-Some.ensures.next other here.1,
    )

pub returns : goal.returns
returns c =
    let i = c.loop-next.invariant in
    (i.0, no_line (All c.args.deck.now) (ahead c.loop-next.lines) i.0 i.2 c.in_default.ensures.next, i.1)
