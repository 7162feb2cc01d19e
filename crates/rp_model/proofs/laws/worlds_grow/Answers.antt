-- By the cases of the event.
use Rattle.std.proofs.Common.{Result, subst}
use Rattle.rp_base.specs.declared.fault.Fault.{Fault}
use Rattle.rp_model.specs.World.{Transition}
use Rattle.rp_model.proofs.WorldGrowing.{GrowsIf, event_grows}
use Rattle.rp_model.proofs.laws.worlds_grow.Goals as goal

pub returns : goal.returns
returns g c = λ setting before event transition is. subst (λ (r : Result Transition Fault). GrowsIf before r) is (event_grows setting before event)
