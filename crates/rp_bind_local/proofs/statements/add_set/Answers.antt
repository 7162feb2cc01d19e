-- The five parts of an assignment.
use Rattle.std.proofs.Common.{◌≡◌, ◌∙◌, ◌++◌, ℕ, List, string_bytes, ap}
use Rattle.std.specs.Prelude.{codes}
use Rattle.std.proofs.lemmas.Result.{IfOk-weaker}
use Rattle.rp_bind_local.specs.Expressions.{int_text, expr_text, margin_of, within}
use Rattle.rp_bind_local.proofs.Adding.{after_five, pushed}
use Rattle.rp_bind_local.proofs.statements.add_set.Goals as goal

pub returns : goal.returns
returns c =
    let text = string_bytes c.args.text.now in
    let scope = within c.args.scope.now in
    let margin = c.in_ok-push_str-2.ensures.bytes ∙ ap (λ (m : List ℕ). string_bytes c.push_str.new.self ++ m) c.margin_of.ensures in
    IfOk-weaker c.push_str-3.result _ _
    (λ r last. after_five text (int_text scope c.args.name) (codes " :=") (margin_of scope) (expr_text scope c.args.expr.now) (codes ";\n") c.in_ok-add_int.ensures c.in_ok-push_str.ensures.bytes margin c.in_ok-add_expr.ensures last)
    (pushed c.push_str-3.result (string_bytes c.add_expr.new.text) (codes ";\n") (string_bytes c.push_str-3.new.self) c.push_str-3.ensures.bytes)
