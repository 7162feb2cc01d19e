use Rattle.std.proofs.Common.{◌≡◌, ◌∷◌, ◌++◌, [], List, map, ap, sym, subst, ◌∙◌}
use Rattle.std.specs.Prelude.{All}
use Rattle.std.proofs.lemmas.List.Elements.{All-push}
use Rattle.rp_words.specs.Ahead.{ahead, text_of}
use Rattle.rp_words.specs.Lines.{LineText}
use Rattle.rp_deck.specs.Live.{IsTaken}
use Rattle.rp_deck.specs.Script.{IsRightLine}
use Rattle.rp_deck.specs.ScriptLines.{LineCommand, script_of}
use Rattle.rp_deck_declarations.specs.DeclaredViews.{names_of}
use Rattle.rp_deck.specs.DeckViews.{command_text, line_command}
use Rattle.rp_deck.specs.declared.deck.Line.{Line}
use Rattle.rp_words.proofs.TablesLemmas.{map_last}
use Rattle.rp_deck.proofs.ScriptLemmas.{goes_on, goes_on_more, script_line_read, script_line_bad, script_end, nothing_more}
use Rattle.rp_deck.proofs.script.read_script.Goals as goal

pub loop-line-preserved : goal.loop-line-preserved
loop-line-preserved c =
    let mode = c.args.mode in
    let d = names_of c.args.declared.now in
    let line = text_of c.in-Some.line in
    let lines = ahead c.next.new.self in
    let command = command_text c.in-Ok.command in
    let before : List LineCommand = map line_command c.loop-line.script.items in
    let taken : Line = record { number = c.in-Some.line.number; command = c.in-Ok.command } in
    let more : LineCommand = record { number = c.in-Some.line.number; command = command } in
    let added : map line_command c.push.new.self.items ≡ before ++ more ∷ [] =
    ap (λ (items : List Line). map line_command items) c.in_ok-push-in-Ok.ensures.items ∙ map_last line_command c.loop-line.script.items (record { number = c.in-Some.line.number; command = c.in-Ok.command }) in
    record {
      read = c.loop-line.invariant.read ∙ ap (λ (texts : List LineText). goes_on before (script_of mode d texts)) c.in-Some.ensures.next
          ∙ ap (goes_on before) (script_line_read mode d line lines command c.in-Ok.ensures.read) ∙ goes_on_more before more (script_of mode d lines)
          ∙ ap (λ (commands : List LineCommand). goes_on commands (script_of mode d lines)) (sym added);
      right = subst (λ (items : List Line). All (IsRightLine c.args.declared.now) items) (sym c.in_ok-push-in-Ok.ensures.items)
          (All-push (IsRightLine c.args.declared.now) c.loop-line.script.items taken c.loop-line.invariant.right c.in-Ok.ensures.right);
      taken = subst (λ (items : List Line). All (λ (l : Line). IsTaken mode l.command) items) (sym c.in_ok-push-in-Ok.ensures.items)
          (All-push (λ (l : Line). IsTaken mode l.command) c.loop-line.script.items taken c.loop-line.invariant.taken c.in-Ok.ensures.taken);
    }

pub returns-in-Err-clause-read : goal.returns-in-Err-clause-read
returns-in-Err-clause-read c =
    let mode = c.args.mode in
    let d = names_of c.args.declared.now in
    let before : List LineCommand = map line_command c.loop-line.script.items in
    c.loop-line.invariant.read ∙ ap (λ (texts : List LineText). goes_on before (script_of mode d texts)) c.in-Some.ensures.next
    ∙ ap (goes_on before) (script_line_bad mode d (text_of c.in-Some.line) (ahead c.next.new.self) c.in-Err.reason c.in-Err.ensures.read)

pub returns-clause-read : goal.returns-clause-read
returns-clause-read c =
    let mode = c.args.mode in
    let d = names_of c.args.declared.now in
    let before : List LineCommand = map line_command c.loop-line.script.items in
    c.loop-line.invariant.read ∙ ap (λ (texts : List LineText). goes_on before (script_of mode d texts)) c.in_default.ensures.next
    ∙ ap (goes_on before) (script_end mode d) ∙ nothing_more before
