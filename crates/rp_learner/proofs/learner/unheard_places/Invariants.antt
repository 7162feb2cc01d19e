use Rattle.std.proofs.Common.{◌≡◌, replicate}
use Rattle.rp_base.specs.Number.{window}
use Rattle.rp_learner.specs.Place.{Unheard}
use Rattle.rp_learner.proofs.learner.unheard_places.Given as goal

-- as many places as were counted
abbrev pub invariant-loop : goal.invariant-loop
invariant-loop l = (l.places.items ≡ replicate l.counter Unheard) × (l.places.capacity ≡ window)
