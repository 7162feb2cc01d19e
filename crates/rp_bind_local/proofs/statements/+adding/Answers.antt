-- Each statement is its blanks and its own text.
use Rattle.std.proofs.Common.{◌≡◌, ◌∙◌, ◌++◌, ℕ, List, string_bytes, ap, sym}
use Rattle.std.specs.Prelude.{codes}
use Rattle.std.proofs.lemmas.Result.{IfOk-weaker}
use Rattle.rp_deck_declarations.specs.rp_body.specs.declared.statement.Stmt.{Stmt}
use Rattle.rp_bind_local.specs.Expressions.{Within, within}
use Rattle.rp_bind_local.specs.Statements.{else_text, indent, out_text, put_text, scope_at, set_text, statement_text, test_text, then_text}
use Rattle.rp_bind_local.proofs.Adding.{after_six, after_two, if_lines, out_lines, pushed, put_lines, set_lines}
use Rattle.rp_bind_local.proofs.statements.+adding.Goals as goal

-- the text of a statement is the text of the variant that it is
of_variant : (text : List ℕ) (scope : Within) (depth : ℕ) (statement variant : Stmt) (lines : List ℕ) → statement ≡ variant → statement_text scope variant depth ≡ lines → text ++ lines ≡ text ++ statement_text scope statement depth
of_variant text scope depth statement variant lines is said =
    ap (λ (l : List ℕ). text ++ l) (sym said) ∙ ap (λ (s : Stmt). text ++ statement_text scope s depth) (sym is)

pub add_statement-returns-in-Set : goal.add_statement-returns-in-Set
add_statement-returns-in-Set t c =
    let text = string_bytes c.args.text.now in
    let scope = within c.args.scope.now in
    let depth = c.args.depth in
    IfOk-weaker c.add_set.result _ _
    (λ r last. after_two text (indent depth) (set_text (scope_at scope depth) c.in-Set.name c.in-Set.expr) c.in_ok-add_indent.ensures last
    ∙ of_variant text scope depth _ _ _ c.in-Set.is (set_lines scope c.in-Set.name c.in-Set.expr depth))
    c.add_set.ensures

pub add_statement-returns-in-Put : goal.add_statement-returns-in-Put
add_statement-returns-in-Put t c =
    let text = string_bytes c.args.text.now in
    let scope = within c.args.scope.now in
    let depth = c.args.depth in
    IfOk-weaker c.add_put.result _ _
    (λ r last. after_two text (indent depth) (put_text (scope_at scope depth) c.in-Put.name c.in-Put.cond) c.in_ok-add_indent.ensures last
    ∙ of_variant text scope depth _ _ _ c.in-Put.is (put_lines scope c.in-Put.name c.in-Put.cond depth))
    c.add_put.ensures

pub add_statement-returns-in-Out : goal.add_statement-returns-in-Out
add_statement-returns-in-Out t c =
    let text = string_bytes c.args.text.now in
    let scope = within c.args.scope.now in
    let depth = c.args.depth in
    IfOk-weaker c.add_out.result _ _
    (λ r last. after_two text (indent depth) (out_text (scope_at scope depth) c.in-Out.expr) c.in_ok-add_indent.ensures last
    ∙ of_variant text scope depth _ _ _ c.in-Out.is (out_lines scope c.in-Out.expr depth))
    c.add_out.ensures

pub add_statement-returns-in_ok-add_indent-in-If : goal.add_statement-returns-in_ok-add_indent-in-If
add_statement-returns-in_ok-add_indent-in-If t c =
    let text = string_bytes c.args.text.now in
    let scope = within c.args.scope.now in
    let depth = c.args.depth in
    let first = c.in_ok-add_then-in-If.ensures ∙ ap (λ (body : List Stmt). string_bytes c.add_test.new.text ++ then_text scope body depth) c.deref.ensures.value in
    let second = c.in_ok-add_else-in-If.ensures ∙ ap (λ (body : List Stmt). string_bytes c.add_then.new.text ++ else_text scope body depth) c.deref-in-If.ensures.value in
    IfOk-weaker c.push_str.result _ _
    (λ r last. after_six text (indent depth) (test_text (scope_at scope depth) c.in-If.cond depth) (then_text scope c.in-If.first.items depth) (else_text scope c.in-If.second.items depth) (indent depth) (codes "end if;\n")
    c.in_ok-add_indent.ensures c.in_ok-add_test-in-If.ensures first second c.in_ok-add_indent-in-If.ensures last
    ∙ of_variant text scope depth _ _ _ c.in-If.is (if_lines scope c.in-If.cond c.in-If.first c.in-If.second depth))
    (pushed c.push_str.result (string_bytes c.add_indent-in-If.new.text) (codes "end if;\n") (string_bytes c.push_str.new.self) c.push_str.ensures.bytes)
