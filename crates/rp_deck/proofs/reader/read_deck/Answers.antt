use Rattle.std.proofs.Common.{ℕ, List, map, Result, Ok, Err, ap, sym, subst, ◌∙◌}
use Rattle.std.proofs.lemmas.Result.{err_from_is_err_and}
use Rattle.rp_words.specs.rp_base.specs.declared.fault.Fault.{Fault}
use Rattle.rp_deck.specs.declared.deck.Deck.{Deck}
use Rattle.rp_words.specs.Ahead.{ahead, after_last}
use Rattle.rp_deck_declarations.specs.Declaring.{declarations_of}
use Rattle.rp_words.specs.LineFaults.{BadLine, Reads, Refuses}
use Rattle.rp_deck_declarations.specs.DeclaredViews.{declared_text, names_of}
use Rattle.rp_deck.specs.DeckViews.{deck_text, line_command}
use Rattle.rp_deck.specs.Meaning.{meaning_of}
use Rattle.rp_deck_declarations.specs.DeclaredTexts.{known}
use Rattle.rp_words.specs.Reading.{◌>>=◌}
use Rattle.rp_deck.specs.ScriptLines.{LineCommand, script_of}
use Rattle.rp_deck.proofs.DeckLemmas.{with_script, and_known, meaning_from, refused_before, refused_in_script}
use Rattle.rp_deck.proofs.reader.read_deck.Goals as goal

pub returns-in_err-declared-clause-meaning : goal.returns-in_err-declared-clause-meaning
returns-in_err-declared-clause-meaning c =
    let mode = c.args.mode in
    let text = c.args.text.now in
    let lines = c.new-lines.result in
    let fault = c.in_err-declared.field-0.0 in
    let is = meaning_from mode text lines c.new-lines.ensures.text c.new-lines.ensures.count in
    let refused : Refuses fault (meaning_of mode text) = refused_before mode fault (known (declarations_of (after_last lines) (ahead lines))) (meaning_of mode text) is c.in_err-declared.ensures.read in
    let p = err_from_is_err_and c.from_residual.result c.from_residual.ensures.1 in
    subst (λ (r : Result Deck Fault). Reads deck_text r (meaning_of mode text)) (sym (p.1 ∙ ap Err p.2)) refused

pub returns-in_err-script-clause-meaning : goal.returns-in_err-script-clause-meaning
returns-in_err-script-clause-meaning c =
    let mode = c.args.mode in
    let text = c.args.text.now in
    let lines = c.new-lines.result in
    let declared = c.in_ok-declared.declared in
    let fault = c.in_err-script.field-0.0 in
    let is = meaning_from mode text lines c.new-lines.ensures.text c.new-lines.ensures.count ∙ ap (and_known mode) c.in_ok-declared.ensures.read in
    let refused : Refuses fault (meaning_of mode text) =
    refused_in_script fault (declared_text declared) (script_of mode (names_of declared) (ahead c.read_declarations.new.lines)) (meaning_of mode text) is c.in_err-script.ensures.read in
    let p = err_from_is_err_and c.from_residual-in_err-script.result c.from_residual-in_err-script.ensures.1 in
    subst (λ (r : Result Deck Fault). Reads deck_text r (meaning_of mode text)) (sym (p.1 ∙ ap Err p.2)) refused

pub returns-clause-meaning : goal.returns-clause-meaning
returns-clause-meaning c =
    let mode = c.args.mode in
    let text = c.args.text.now in
    let lines = c.new-lines.result in
    let declared = c.in_ok-declared.declared in
    let d = names_of declared in
    let rest = ahead c.read_declarations.new.lines in
    meaning_from mode text lines c.new-lines.ensures.text c.new-lines.ensures.count
    ∙ ap (and_known mode) c.in_ok-declared.ensures.read
    ∙ ap (λ (r : Result (List LineCommand) BadLine). r >>= (λ (script : List LineCommand). Ok (with_script (declared_text declared) script))) c.in_ok-script.ensures.read
    ∙ ap (λ (n : ℕ). Ok (with_script (record (declared_text declared) { max_positions = n }) (map line_command c.in_ok-script.script.items))) (sym c.most_positions.ensures.value)
