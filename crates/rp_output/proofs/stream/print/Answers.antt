use Rattle.std.proofs.Common.{◌≡◌, ◌∙◌, ◌++◌, [], ◌∷◌, List, ℕ, Option, Some, None, Result, IsErr, ap}
use Rattle.std.specs.Prelude.{IfSome}
use Rattle.std.specs.Fmt.{AppendsText, with_newline}
use Rattle.rp_model.specs.rp_base.specs.declared.fault.Fault.{Fault}
use Rattle.rp_output.proofs.Writing.{writes_nothing, writes_same}
use Rattle.rp_output.specs.Stream.{Writes}
use Rattle.rp_output.proofs.stream.print.Goals as goal

-- nothing was written where memory ran out
nothing_of : (contents : Option (List ℕ)) (output : Option (List ℕ)) (answer : Result Unit Fault) → IsErr answer
    → IfSome output (λ text. Writes contents contents (text ++ 10 ∷ []) answer)
nothing_of contents None answer failed = tt
nothing_of contents (Some text) answer failed = writes_nothing contents (text ++ 10 ∷ []) answer failed

-- the line and its end, made of no text, were written
line_of : (a b : Option (List ℕ)) (output : Option (List ℕ)) (old new : List ℕ) (answer : Result Unit Fault) → old ≡ [] → AppendsText old new (with_newline output)
    → Writes a b new answer → IfSome output (λ text. Writes a b (text ++ 10 ∷ []) answer)
line_of a b None old new answer empty appended written = tt
line_of a b (Some text) old new answer empty appended written =
    writes_same a b new (text ++ 10 ∷ []) answer (appended ∙ ap (λ l. l ++ (text ++ 10 ∷ [])) empty) written

pub returns-in_err-text-clause-printed : goal.returns-in_err-text-clause-printed
returns-in_err-text-clause-printed g c =
    nothing_of (g.W.Write.contents c.args.writer.now) (g.D.Display.output c.args.line) c.from_residual.result c.from_residual.ensures.0
