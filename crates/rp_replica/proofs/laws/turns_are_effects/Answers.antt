use Rattle.std.proofs.Common.{ap}
use Rattle.rp_model.specs.Effect.{turn_done_if}
use Rattle.rp_replica.specs.State.{part_of}
use Rattle.rp_replica.proofs.laws.turns_are_effects.Goals as goal

pub returns-clause-effect : goal.returns-clause-effect
returns-clause-effect g c = λ old input turn e. ap (turn_done_if (part_of old)) e

pub returns-clause-part : goal.returns-clause-part
returns-clause-part g c = λ old new turn sent t. ap part_of t.goes

pub returns-clause-refusal : goal.returns-clause-refusal
returns-clause-refusal g c = λ old input fault e. ap (turn_done_if (part_of old)) e
