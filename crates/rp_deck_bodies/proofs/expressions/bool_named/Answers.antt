use Rattle.std.proofs.Common.{subst}
use Rattle.rp_deck_bodies.specs.Counted.{IsCounted}
use Rattle.rp_deck_bodies.proofs.expressions.bool_named.Goals as goal

pub returns-in-Bool-clause-counted : goal.returns-in-Bool-clause-counted
returns-in-Bool-clause-counted c = λ limits counted. subst (λ component. IsCounted limits component) c.in-Bool.is (c.in_ok-place.ensures.counted limits counted)
