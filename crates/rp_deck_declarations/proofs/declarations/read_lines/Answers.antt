-- One line after another.
use Rattle.std.proofs.Common.{Err, ap, sym, subst, ◌∙◌}
use Rattle.rp_words.specs.Ahead.{ahead, after_last, text_of}
use Rattle.rp_deck_declarations.specs.Declaring.{declarations_from}
use Rattle.rp_deck_declarations.specs.DraftViews.{draft_text}
use Rattle.rp_words.specs.LineFaults.{fault_at, Refuses}
use Rattle.rp_deck_declarations.proofs.DeclaringLemmas.{next_line, refused_at, script_ends, bad_script, no_line}
use Rattle.rp_deck_declarations.proofs.declarations.read_lines.Goals as goal

pub returns-in-Ok-clause-read : goal.returns-in-Ok-clause-read
returns-in-Ok-clause-read c =
    let last = after_last c.args.lines.now in
    let d = draft_text c.loop-line.draft in
    sym c.loop-line.invariant.same ∙ ap (declarations_from last d) c.in-Some.ensures.next
    ∙ script_ends last d (text_of c.in-Some.line) (ahead c.next.new.self) (sym c.is_ended_by.ensures ∙ c.if-is_ended_by.true) c.in-Ok.ensures.read

pub returns-in-Err-clause-read : goal.returns-in-Err-clause-read
returns-in-Err-clause-read c =
    let last = after_last c.args.lines.now in
    let d = draft_text c.loop-line.draft in
    let read = sym c.loop-line.invariant.same ∙ ap (declarations_from last d) c.in-Some.ensures.next
    ∙ bad_script last d (text_of c.in-Some.line) (ahead c.next.new.self) c.in-Err.reason (sym c.is_ended_by.ensures ∙ c.if-is_ended_by.true) c.in-Err.ensures.read in
    subst (λ f. Refuses f (declarations_from last (draft_text c.args.draft.now) (ahead c.args.lines.now))) (sym c.at.ensures) read

pub returns-in-Err-read_line-clause-read : goal.returns-in-Err-read_line-clause-read
returns-in-Err-read_line-clause-read c =
    let last = after_last c.args.lines.now in
    let d = draft_text c.loop-line.draft in
    let same = sym c.loop-line.invariant.same ∙ ap (declarations_from last d) c.in-Some.ensures.next in
    let refused = refused_at last d (text_of c.in-Some.line) (ahead c.next.new.self) c.in-Err-read_line.error (sym c.is_ended_by.ensures ∙ c.if-is_ended_by.false) c.in-Err-read_line.ensures.read in
    subst (λ f. Refuses f (declarations_from last (draft_text c.args.draft.now) (ahead c.args.lines.now))) (sym c.at-in-Err-read_line.ensures)
    (subst (λ r. Refuses (fault_at c.in-Some.line.number c.in-Err-read_line.error) r) (sym same) refused)

pub loop-line-preserved : goal.loop-line-preserved
loop-line-preserved c =
    let last = after_last c.args.lines.now in
    let d = draft_text c.loop-line.draft in
    let after = draft_text c.read_line.new.self in
    record {
      draft = c.in-Ok-read_line.ensures.draft.0;
      last = c.in-Some.ensures.last ∙ c.loop-line.invariant.last;
      same = sym (ap (declarations_from last d) c.in-Some.ensures.next
          ∙ next_line last d (text_of c.in-Some.line) (ahead c.next.new.self) after (sym c.is_ended_by.ensures ∙ c.if-is_ended_by.false) c.in-Ok-read_line.ensures.read)
          ∙ c.loop-line.invariant.same;
    }

pub returns-clause-read : goal.returns-clause-read
returns-clause-read c =
    let last = after_last c.args.lines.now in
    let d = draft_text c.loop-line.draft in
    let line = sym c.loop-line.invariant.last ∙ sym c.in_default.ensures.end ∙ sym c.next_number.ensures in
    let reason = sym c.missing.ensures in
    sym c.loop-line.invariant.same ∙ ap (declarations_from last d) c.in_default.ensures.next ∙ no_line last d
    ∙ (λ i. Err (record { line = line i; reason = reason i }))
