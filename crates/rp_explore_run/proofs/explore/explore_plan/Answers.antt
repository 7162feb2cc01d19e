-- The deck is explored.
use Rattle.std.proofs.Common.{◌≡◌, ◌∙◌, ℕ, List, Bor, length, map, pos, replicate, refl, sym, ap, subst}
use Rattle.std.proofs.lemmas.List.{length-map}
use Rattle.std.proofs.lemmas.Result.{IfOk-weaker}
use Rattle.std.specs.Arc.{arc_value}
use Rattle.rp_script.specs.rp_deck.specs.declared.deck.Line.{Line}
use Rattle.rp_script.specs.rp_deck_declarations.specs.declared.deck_program.DeckProgram.{DeckProgram}
use Rattle.rp_explore_deck.specs.declared.actions.PlannedAction.{PlannedAction}
use Rattle.rp_explore_deck.specs.declared.rules.PlacedRule.{PlacedRule}
use Rattle.rp_explore_run.specs.Explores.{IsExploredBy, head_of}
use Rattle.rp_explore_run.specs.Judging.{keeps, no_truths}
use Rattle.rp_explore_run.specs.declared.explore.Asked.{Asked}
use Rattle.rp_script.specs.rp_machine.specs.TallyRule.{tally_answers, tally_image, tally_next}
use Rattle.rp_script.specs.rp_object.specs.Image.{objects_image}
use Rattle.rp_script.specs.rp_object.specs.State.{first_state}
use Rattle.rp_script.specs.rp_object.specs.Step.{objects_answers, objects_next}
use Rattle.rp_explore_run.proofs.Exploring.{deck_same, explored_at}
use Rattle.rp_explore_run.proofs.explore.explore_plan.Goals as goal

pub returns-in-Tally-clause-printed : goal.returns-in-Tally-clause-printed
returns-in-Tally-clause-printed c =
    let plan = c.args.plan.now in
    let lines = map (λ (line : Bor (List ℕ)). line.now) c.args.lines.now in
    let asked : Asked =
    record { plan = c.args.plan; may = c.deref-6.result; source = record { lines = c.args.lines; head = c.head_of.result; rules = c.deref-4.result; planned = c.deref-5.result }; request = c.args.request } in
    let may = c.deref-6.ensures.value ∙ c.in_ok-may.ensures ∙ ap (map (λ (p : PlannedAction). p.action)) c.deref.ensures.value in
    let head : c.head_of.result ≡ head_of (length lines) plan.deck.script.items =
    c.head_of.ensures ∙ ap (λ (l : List Line). head_of (length c.args.lines.now) l) c.deref-3.ensures.value
    ∙ ap (λ (n : ℕ). head_of n plan.deck.script.items) (sym (length-map c.args.lines.now (λ (line : Bor (List ℕ)). line.now))) in
    let rules = c.deref-4.ensures.value ∙ c.in_ok-rules.ensures ∙ ap (map (λ (placed : PlacedRule). placed.line)) c.deref-2.ensures.value in
    IfOk-weaker c.explore_tally.result _ _ (λ printed by.
    subst (λ (p : DeckProgram). IsExploredBy p plan lines c.args.request printed) (sym c.in-Tally.is)
    (explored_at tally_next tally_answers (replicate c.in-Tally.program (pos 0)) tally_image no_truths asked plan lines c.args.request printed refl refl may
    (λ e. deck_same asked lines e refl may head rules c.deref-5.ensures.value) by)) c.explore_tally.ensures.printed

pub returns-clause-printed : goal.returns-clause-printed
returns-clause-printed c =
    let plan = c.args.plan.now in
    let lines = map (λ (line : Bor (List ℕ)). line.now) c.args.lines.now in
    let asked : Asked =
    record { plan = c.args.plan; may = c.deref-6.result; source = record { lines = c.args.lines; head = c.head_of.result; rules = c.deref-4.result; planned = c.deref-5.result }; request = c.args.request } in
    let may = c.deref-6.ensures.value ∙ c.in_ok-may.ensures ∙ ap (map (λ (p : PlannedAction). p.action)) c.deref.ensures.value in
    let head : c.head_of.result ≡ head_of (length lines) plan.deck.script.items =
    c.head_of.ensures ∙ ap (λ (l : List Line). head_of (length c.args.lines.now) l) c.deref-3.ensures.value
    ∙ ap (λ (n : ℕ). head_of n plan.deck.script.items) (sym (length-map c.args.lines.now (λ (line : Bor (List ℕ)). line.now))) in
    let rules = c.deref-4.ensures.value ∙ c.in_ok-rules.ensures ∙ ap (map (λ (placed : PlacedRule). placed.line)) c.deref-2.ensures.value in
    IfOk-weaker c.explore_objects.result _ _ (λ printed by.
    subst (λ (p : DeckProgram). IsExploredBy p plan lines c.args.request printed) (sym c.in-Objects.is)
    (explored_at objects_next objects_answers (first_state (arc_value c.in-Objects.program.declarations)) objects_image keeps asked plan lines c.args.request printed refl refl may
    (λ e. deck_same asked lines e refl may head rules c.deref-5.ensures.value) by)) c.explore_objects.ensures.printed
