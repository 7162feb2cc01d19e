-- By the cases of the event.
use Rattle.std.proofs.Common.{subst}
use Rattle.rp_model.proofs.Devices.{NoDevice, event_is}
use Rattle.rp_model.proofs.laws.no_event_is_refused_by_a_device.Goals as goal

pub returns : goal.returns
returns g c = λ setting before event is. subst NoDevice is (event_is setting before event)
