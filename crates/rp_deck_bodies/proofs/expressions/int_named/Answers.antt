use Rattle.std.proofs.Common.{subst}
use Rattle.rp_deck_bodies.specs.Counted.{IsCounted}
use Rattle.rp_deck_bodies.proofs.expressions.int_named.Goals as goal

pub returns-in-Int-clause-counted : goal.returns-in-Int-clause-counted
returns-in-Int-clause-counted c = λ limits counted. subst (λ component. IsCounted limits component) c.in-Int.is (c.in_ok-place.ensures.counted limits counted)
