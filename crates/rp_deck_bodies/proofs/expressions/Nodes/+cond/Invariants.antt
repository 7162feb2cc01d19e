use Rattle.std.proofs.Common.{◌+◌, ◌*◌}
use Rattle.rp_deck_bodies.proofs.expressions.Nodes.+cond.Given as goal

abbrev pub decreases-cond : goal.decreases-cond
decreases-cond l = 5 * l.depth

abbrev pub decreases-cond_of : goal.decreases-cond_of
decreases-cond_of l = 5 * l.depth + 3

abbrev pub decreases-cond_from : goal.decreases-cond_from
decreases-cond_from l = 5 * l.depth + 4

abbrev pub decreases-boxed_cond : goal.decreases-boxed_cond
decreases-boxed_cond l = 5 * l.depth + 1

abbrev pub decreases-two_conds : goal.decreases-two_conds
decreases-two_conds l = 5 * l.depth + 2
