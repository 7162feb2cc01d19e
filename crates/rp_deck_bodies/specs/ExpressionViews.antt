-- Expressions and conditions as a text says them.
use Rattle.rp_body.specs.declared.expression.Expr.{Expr}
use Rattle.rp_body.specs.declared.expression.Expr.TheVariants as exprs
use Rattle.rp_body.specs.declared.expression.Cond.{Cond}
use Rattle.rp_body.specs.declared.expression.Cond.TheVariants as conds
use Rattle.rp_deck_bodies.specs.Expressions.{ExprText, Number, Arg, Out, Int, Add, Sub, CondText}
use Rattle.rp_deck_bodies.specs.Expressions.{Constant, Named, Less, LessOrEqual, Equal, Not, And}
use Rattle.rp_deck_bodies.specs.Expressions.{Or}

abbrev pub expr_text : Expr → ExprText
expr_text (exprs.Number number) = Number number
expr_text exprs.Arg = Arg
expr_text exprs.Out = Out
expr_text (exprs.Int place) = Int place
expr_text (exprs.Add' p a q b) = Add (expr_text a) (expr_text b)
expr_text (exprs.Sub' p a q b) = Sub (expr_text a) (expr_text b)

abbrev pub cond_text : Cond → CondText
cond_text (conds.Constant truth) = Constant truth
cond_text (conds.Bool place) = Named place
cond_text (conds.Less a b) = Less (expr_text a) (expr_text b)
cond_text (conds.LessOrEqual a b) = LessOrEqual (expr_text a) (expr_text b)
cond_text (conds.Equal a b) = Equal (expr_text a) (expr_text b)
cond_text (conds.Not' p c) = Not (cond_text c)
cond_text (conds.And' p c q d) = And (cond_text c) (cond_text d)
cond_text (conds.Or' p c q d) = Or (cond_text c) (cond_text d)
