-- By the cases of the expression.
use Rattle.std.proofs.Common.{subst}
use Rattle.rp_manual.specs.Expressions.{HasValue}
use Rattle.rp_manual.proofs.Values.{has_value, only_value}
use Rattle.rp_manual.proofs.bodies.expressions_mean_their_words.Goals as goal

pub returns : goal.returns
returns c expr store arg out value = (
  (λ has. only_value store arg out expr value has),
  (λ is. subst (HasValue expr store arg out) is (has_value store arg out expr)),
)
