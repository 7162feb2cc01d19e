-- What an operation does, part by part.
use Rattle.std.proofs.Common.{◌≡◌, ◌∙◌, ◌++◌, ℕ, List, true, false, string_bytes, ap, sym}
use Rattle.std.specs.Prelude.{codes}
use Rattle.std.proofs.lemmas.Result.{IfOk-weaker}
use Rattle.rp_deck_declarations.specs.rp_body.specs.declared.statement.Stmt.{Stmt}
use Rattle.rp_bind_local.specs.declared.operations.Operation.{Operation}
use Rattle.rp_bind_local.specs.Expressions.{Within, bool_text, cond_text, expr_text}
use Rattle.rp_bind_local.specs.Objects.{body_text, scope_of}
use Rattle.rp_bind_local.specs.Operations.{does_of}
use Rattle.rp_bind_local.specs.Statements.{statements_text}
use Rattle.rp_bind_local.proofs.Adding.{after_four, after_three, after_two, pushed}
use Rattle.rp_bind_local.proofs.objects.add_body.Goals as goal

pub returns-in_ok-add_expr-in-Value : goal.returns-in_ok-add_expr-in-Value
returns-in_ok-add_expr-in-Value c =
    let text = string_bytes c.args.text.now in
    let object = c.args.declaration.now in
    let expr = c.in-Value.expr.now in
    let middle = c.in_ok-add_expr-in-Value.ensures ∙ ap (λ (s : Within). string_bytes c.push_str.new.self ++ expr_text s expr) c.scope_of-in_function.ensures in
    IfOk-weaker c.push_str-in-Value.result _ _
    (λ r last. after_three text (codes "\n      is\n      begin\n         return Value_Of_This_Deck\n           (") (expr_text (scope_of object true) expr) (codes ");\n") c.in_ok-push_str-in-Value.ensures.bytes middle last
    ∙ ap (λ (o : Operation). text ++ body_text object (does_of o)) (sym c.in-Value.is))
    (pushed c.push_str-in-Value.result (string_bytes c.add_expr.new.text) (codes ");\n") (string_bytes c.push_str-in-Value.new.self) c.push_str-in-Value.ensures.bytes)

pub returns-in_ok-add_cond-in-Truth : goal.returns-in_ok-add_cond-in-Truth
returns-in_ok-add_cond-in-Truth c =
    let text = string_bytes c.args.text.now in
    let object = c.args.declaration.now in
    let cond = c.in-Truth.cond.now in
    let middle = c.in_ok-add_cond-in-Truth.ensures ∙ ap (λ (s : Within). string_bytes c.push_str-in-Truth.new.self ++ cond_text s cond) c.scope_of-in_function.ensures in
    IfOk-weaker c.push_str-in-Truth-2.result _ _
    (λ r last. after_three text (codes "\n      is\n      begin\n         return\n           ") (cond_text (scope_of object true) cond) (codes ";\n") c.in_ok-push_str-in-Truth.ensures.bytes middle last
    ∙ ap (λ (o : Operation). text ++ body_text object (does_of o)) (sym c.in-Truth.is))
    (pushed c.push_str-in-Truth-2.result (string_bytes c.add_cond.new.text) (codes ";\n") (string_bytes c.push_str-in-Truth-2.new.self) c.push_str-in-Truth-2.ensures.bytes)

pub returns-in_ok-push_str-in-Procedure : goal.returns-in_ok-push_str-in-Procedure
returns-in_ok-push_str-in-Procedure c =
    let text = string_bytes c.args.text.now in
    let object = c.args.declaration.now in
    let body = c.in-Procedure.body.now in
    IfOk-weaker c.add_statements.result _ _
    (λ r last. after_two text (codes "\n      is\n      begin\n         Result := 0;\n") (statements_text (scope_of object false) body 0) c.in_ok-push_str-in-Procedure.ensures.bytes
    (last ∙ ap (λ (s : Within). string_bytes c.push_str-in-Procedure.new.self ++ statements_text s body 0) c.scope_of-in_body.ensures)
    ∙ ap (λ (o : Operation). text ++ body_text object (does_of o)) (sym c.in-Procedure.is))
    c.add_statements.ensures

pub returns-in_ok-push_str-in-Entry-2 : goal.returns-in_ok-push_str-in-Entry-2
returns-in_ok-push_str-in-Entry-2 c =
    let text = string_bytes c.args.text.now in
    let object = c.args.declaration.now in
    let entry = c.in-Entry.entry.now in
    let barrier = c.in_ok-add_bool-in-Entry.ensures ∙ ap (λ (s : Within). string_bytes c.push_str-in-Entry.new.self ++ bool_text s entry.barrier) c.scope_of-in_body.ensures in
    IfOk-weaker c.add_statements-in-Entry.result _ _
    (λ r last. after_four text (codes "\n        when ") (bool_text (scope_of object false) entry.barrier) (codes "\n      is\n      begin\n         Result := 0;\n") (statements_text (scope_of object false) entry.body.items 0)
    c.in_ok-push_str-in-Entry.ensures.bytes barrier c.in_ok-push_str-in-Entry-2.ensures.bytes
    (last ∙ ap (λ (s : Within). string_bytes c.push_str-in-Entry-2.new.self ++ statements_text s c.deref.result.now 0) c.scope_of-in_body.ensures
    ∙ ap (λ (b : List Stmt). string_bytes c.push_str-in-Entry-2.new.self ++ statements_text (scope_of object false) b 0) c.deref.ensures.value)
    ∙ ap (λ (o : Operation). text ++ body_text object (does_of o)) (sym c.in-Entry.is))
    c.add_statements-in-Entry.ensures
