-- The line and its end are the text that is written.
use Rattle.std.proofs.Common.{◌≡◌, ◌∙◌, subst, sym, append-nil, append_assoc, ◌++◌, [], ◌∷◌, List, ℕ, Option, Some, None, Result, ap}
use Rattle.std.specs.Prelude.{IfSome}
use Rattle.std.specs.Fmt.{WritesText, with_newline}
use Rattle.std.specs.Fmt.InlineText.{AppendsIfIntact, IsIntact, inline_text}
use Rattle.std.specs.List.{FoldsTo, concat}
use Rattle.std.specs.declared.fmt.InlineText.{InlineText}
use Rattle.rp_model.specs.rp_base.specs.declared.fault.Fault.{Fault}
use Rattle.rp_output.proofs.Writing.{begins_nothing, writes_same}
use Rattle.rp_output.specs.Stream.{Begins, Writes}
use Rattle.rp_output.proofs.stream.report.Goals as goal

-- a line that is too long is not written
nothing_of : (a : Option (List ℕ)) (output : Option (List ℕ)) → IfSome output (λ text. Begins a a (text ++ 10 ∷ []))
nothing_of a None = tt
nothing_of a (Some text) = begins_nothing a (text ++ 10 ∷ [])

-- what some calls wrote, one after another
text_after : {n : ℕ} (old new : InlineText n) (parts : List (List ℕ)) → FoldsTo AppendsIfIntact old parts new → AppendsIfIntact old (concat parts) new
text_after old new [] same intact = (subst IsIntact same intact, ap inline_text (sym same) ∙ sym (append-nil (inline_text old)))
text_after old new (x ∷ parts) calls intact =
    let first = calls.1 intact in
    let rest = text_after calls.0 new parts calls.2 first.0 in
    (rest.0, rest.1 ∙ ap (λ (l : List ℕ). l ++ concat parts) first.1 ∙ append_assoc (inline_text old) x (concat parts))

-- the line and its end, in a text that was empty, were written
line_of : {n : ℕ} (a b : Option (List ℕ)) (output : Option (List ℕ)) (old new : InlineText n) (bytes : List ℕ) (answer : Result Unit Fault)
    → IsIntact old → inline_text old ≡ [] → WritesText AppendsIfIntact old (with_newline output) new → bytes ≡ inline_text new
    → Writes a b bytes answer → IfSome output (λ text. Writes a b (text ++ 10 ∷ []) answer)
line_of a b None old new bytes answer intact empty wrote is written = tt
line_of a b (Some text) old new bytes answer intact empty wrote is written =
    let made = text_after old new wrote.parts wrote.calls intact in
    writes_same a b bytes (text ++ 10 ∷ []) answer (is ∙ made.1 ∙ ap (λ (l : List ℕ). inline_text old ++ l) wrote.whole ∙ ap (λ (l : List ℕ). l ++ (text ++ 10 ∷ [])) empty) written

pub returns-in-Ok-clause-printed : goal.returns-in-Ok-clause-printed
returns-in-Ok-clause-printed g c =
    line_of _ _ (g.D.Display.output c.args.line) c.new-text.result c.writeln.new.self _ _ c.new-text.ensures.intact c.new-text.ensures.text c.in-Ok.ensures.writes (c.as_bytes.ensures.value ∙ c.as_str.ensures.value) c.write_whole.ensures.written

pub returns-clause-printed : goal.returns-clause-printed
returns-clause-printed g c = nothing_of _ (g.D.Display.output c.args.line)
