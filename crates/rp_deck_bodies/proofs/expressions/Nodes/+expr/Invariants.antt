use Rattle.std.proofs.Common.{◌+◌, ◌*◌}
use Rattle.rp_deck_bodies.proofs.expressions.Nodes.+expr.Given as goal

abbrev pub decreases-expr : goal.decreases-expr
decreases-expr l = 5 * l.depth

abbrev pub decreases-expr_from : goal.decreases-expr_from
decreases-expr_from l = 5 * l.depth + 4

abbrev pub decreases-boxed_expr : goal.decreases-boxed_expr
decreases-boxed_expr l = 5 * l.depth + 1

abbrev pub decreases-two_exprs : goal.decreases-two_exprs
decreases-two_exprs l = 5 * l.depth + 2

abbrev pub decreases-expr_of : goal.decreases-expr_of
decreases-expr_of l = 5 * l.depth + 3
