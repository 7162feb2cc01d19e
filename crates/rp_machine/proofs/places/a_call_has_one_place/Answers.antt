-- A call that counted does not count again.
use Rattle.rp_machine.proofs.Placing.{one_place}
use Rattle.rp_machine.proofs.places.a_call_has_one_place.Goals as goal

pub returns : goal.returns
returns g c = λ begin actions call one other. one_place g.M.Machine.next g.M.Machine.answers begin actions call one other
