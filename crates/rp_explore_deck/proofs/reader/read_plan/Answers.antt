use Rattle.std.proofs.Common.{◌≡◌, Result, Err, ap, sym, subst, ◌∙◌}
use Rattle.std.proofs.lemmas.Result.{err_from_is_err_and}
use Rattle.rp_deck.specs.rp_base.specs.declared.fault.Fault.{Fault}
use Rattle.rp_deck.specs.Meaning.{texts_of, meaning_of}
use Rattle.rp_deck.specs.declared.deck.Mode.TheVariants.{Live}
use Rattle.rp_deck_declarations.specs.DeclaredTexts.{known}
use Rattle.rp_deck_declarations.specs.DeclaredViews.{names_of, program_text}
use Rattle.rp_deck_declarations.specs.Declaring.{declarations_of}
use Rattle.rp_explore_deck.specs.Plans.{PlanText, plan_text, additions_of, planned, plan_of}
use Rattle.rp_explore_deck.specs.declared.plan.Plan.{Plan}
use Rattle.rp_words.specs.Ahead.{ahead, after_last}
use Rattle.rp_words.specs.LineFaults.{BadLine, Reads, Refuses}
use Rattle.rp_explore_deck.proofs.PlanLemmas.{declared_plan, plan_from, refused_before}
use Rattle.rp_explore_deck.proofs.reader.read_plan.Goals as goal

pub returns-in_err-declared-clause-meaning : goal.returns-in_err-declared-clause-meaning
returns-in_err-declared-clause-meaning c =
    let text = c.args.text.now in
    let added = c.in_ok-added.added in
    let lines = c.new.result in
    let fault = c.in_err-declared.field-0.0 in
    let is = plan_from text c.in_ok-plain.plain.items added lines c.in_ok-added.ensures c.in_ok-plain.ensures.text (c.new.ensures.text ∙ c.deref.ensures.value) c.new.ensures.count in
    let refused : Refuses fault (plan_of text) = refused_before added text fault (known (declarations_of (after_last lines) (ahead lines))) (plan_of text) is c.in_err-declared.ensures.read in
    let p = err_from_is_err_and c.from_residual-in_err-declared.result c.from_residual-in_err-declared.ensures.1 in
    subst (λ (r : Result Plan Fault). Reads plan_text r (plan_of text)) (sym (p.1 ∙ ap Err p.2)) refused

pub returns-clause-meaning : goal.returns-clause-meaning
returns-clause-meaning c =
    let text = c.args.text.now in
    let added = c.in_ok-added.added in
    let lines = c.new.result in
    let declared = c.in_ok-declared.declared in
    let plain = c.deref-2.result.now in
    let adds = additions_of (names_of declared) (program_text declared.program) added (texts_of text) in
    let same = c.deref-2.ensures.value ∙ c.in_ok-plain.ensures.text in
    let is : plan_of text ≡ planned (meaning_of Live plain) adds =
    plan_from text c.in_ok-plain.plain.items added lines c.in_ok-added.ensures c.in_ok-plain.ensures.text (c.new.ensures.text ∙ c.deref.ensures.value) c.new.ensures.count
    ∙ ap (declared_plan added text) c.in_ok-declared.ensures.read ∙ (λ i. planned (meaning_of Live (sym same i)) adds) in
    subst (λ (r : Result PlanText BadLine). Reads plan_text c.read_with.result r) (sym is) (c.read_with.ensures.meaning adds c.read_additions-additions.ensures.read)
