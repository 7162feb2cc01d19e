-- The deck is printed, or the order is longer than the log.
use Rattle.std.proofs.Common.{◌<◌, ◌∙◌, List, ℕ, length, ap, arith, rules, sym, subst}
use Rattle.rp_explore_run.specs.Answers.{IsDeckWith, deck_for, explored_deck}
use Rattle.rp_explore_run.specs.Trials.{HidesWhenRun, ShowsWhenRun}
use Rattle.rp_explore_run.specs.declared.answer.Verdict.{Verdict}
use Rattle.rp_explore_run.proofs.answer.deck_of.Goals as goal

pub returns-then-len-from-clause-deck : goal.returns-then-len-from-clause-deck
returns-then-len-from-clause-deck g c =
    let d = explored_deck c.args.searched.now in
    let long : d.positions < length c.in_ok-shown.shown.order.items = omega (arith, c.if-len-from.true, c.len.ensures, c.from.ensures) in
    subst (λ (v : Verdict). IsDeckWith g.M.Machine.next g.M.Machine.answers (g.M.Machine.begin c.args.program.now) g.M.Machine.image d c.args.found.now v c.nothing.result.text.items)
    (sym c.nothing.ensures.verdict) (c.nothing.ensures.text, record { shown = c.in_ok-shown.shown; is_shown = c.in_ok-shown.ensures; long = long })

pub returns-then-branch-clause-deck : goal.returns-then-branch-clause-deck
returns-then-branch-clause-deck g c =
    let d = explored_deck c.args.searched.now in
    let ran : ShowsWhenRun c.deref-2.result.now c.in_ok-shown.shown.wanted = c.in_ok-shows.ensures.shown (search rules) in
    record {
      shown = c.in_ok-shown.shown;
      is_shown = c.in_ok-shown.ensures;
      text_is = c.in_ok-text.ensures ∙ ap (deck_for d) c.deref.ensures.value;
      shows = subst (λ (t : List ℕ). ShowsWhenRun t c.in_ok-shown.shown.wanted) c.deref-2.ensures.value ran;
    }

pub returns-clause-deck : goal.returns-clause-deck
returns-clause-deck g c =
    let d = explored_deck c.args.searched.now in
    let hides : HidesWhenRun c.deref-2.result.now c.in_ok-shown.shown.wanted = c.in_ok-shows.ensures.hidden (search rules) in
    let hidden : HidesWhenRun (deck_for d c.in_ok-shown.shown.order.items) c.in_ok-shown.shown.wanted =
    subst (λ (t : List ℕ). HidesWhenRun t c.in_ok-shown.shown.wanted)
    (c.deref-2.ensures.value ∙ (c.in_ok-text.ensures ∙ ap (deck_for d) c.deref.ensures.value)) hides in
    subst (λ (v : Verdict). IsDeckWith g.M.Machine.next g.M.Machine.answers (g.M.Machine.begin c.args.program.now) g.M.Machine.image d c.args.found.now v c.nothing-else-branch.result.text.items)
    (sym c.nothing-else-branch.ensures.verdict) (c.nothing-else-branch.ensures.text, record { shown = c.in_ok-shown.shown; is_shown = c.in_ok-shown.ensures; hides = hidden })
