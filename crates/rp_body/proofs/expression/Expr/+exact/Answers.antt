-- Sums and differences are exact, since the parts of an expression share its nodes.
use Rattle.std.proofs.Common.{◌+ℤ◌, ◌-ℤ◌, ◌∙◌, sym, ap, ap₂, arith}
use Rattle.rp_body.specs.Check.{expr_nodes}
use Rattle.rp_body.specs.Expressions.{value_of}
use Rattle.rp_body.proofs.Sums.{Sides, sum_exact, difference_exact}
use Rattle.rp_body.proofs.expression.Expr.+exact.Goals as goal

pub returns-in-Add-clause-value : goal.returns-in-Add-clause-value
returns-in-Add-clause-value t c =
    let store = c.args.components.now in
    let arg = c.args.arg in
    let out = c.args.out in
    let s : Sides arg out store c.deref.result.now c.deref-in-Add.result.now c.exact.result c.exact-in-Add.result = record {
      arg_fits = c.ranges.arg;
      out_fits = c.ranges.out;
      few = omega (arith, ap expr_nodes c.in-Add.is, ap expr_nodes c.deref.ensures, ap expr_nodes c.deref-in-Add.ensures, c.requires.nodes);
      first_is = c.exact.ensures.value;
      first_bounded = c.exact.ensures.bounded;
      second_is = c.exact-in-Add.ensures.value;
      second_bounded = c.exact-in-Add.ensures.bounded;
    } in
    sum_exact s
    ∙ ap₂ (λ a b. value_of a store arg out +ℤ value_of b store arg out) c.deref.ensures c.deref-in-Add.ensures
    ∙ sym (ap (λ e. value_of e store arg out) c.in-Add.is)

pub returns-in-Sub-clause-value : goal.returns-in-Sub-clause-value
returns-in-Sub-clause-value t c =
    let store = c.args.components.now in
    let arg = c.args.arg in
    let out = c.args.out in
    let s : Sides arg out store c.deref-in-Sub.result.now c.deref-in-Sub-2.result.now c.exact-in-Sub.result c.exact-in-Sub-2.result = record {
      arg_fits = c.ranges.arg;
      out_fits = c.ranges.out;
      few = omega (arith, ap expr_nodes c.in-Sub.is, ap expr_nodes c.deref-in-Sub.ensures, ap expr_nodes c.deref-in-Sub-2.ensures, c.requires.nodes);
      first_is = c.exact-in-Sub.ensures.value;
      first_bounded = c.exact-in-Sub.ensures.bounded;
      second_is = c.exact-in-Sub-2.ensures.value;
      second_bounded = c.exact-in-Sub-2.ensures.bounded;
    } in
    difference_exact s
    ∙ ap₂ (λ a b. value_of a store arg out -ℤ value_of b store arg out) c.deref-in-Sub.ensures c.deref-in-Sub-2.ensures
    ∙ sym (ap (λ e. value_of e store arg out) c.in-Sub.is)
