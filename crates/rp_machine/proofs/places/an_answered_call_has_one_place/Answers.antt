-- Only a call that counted is answered, and it has one place.
use Rattle.std.proofs.Common.{map, subst}
use Rattle.rp_base.specs.Sets.{Has}
use Rattle.rp_machine.specs.Calls.{CallName, call_of}
use Rattle.rp_machine.specs.Replay.{replay_answers}
use Rattle.rp_machine.proofs.Applying.{accounted}
use Rattle.rp_machine.proofs.Placing.{one_place, has_place, has_map}
use Rattle.rp_machine.proofs.places.an_answered_call_has_one_place.Goals as goal

pub returns : goal.returns
returns g c =
    let m = g.M.Machine in
    let laws = c.laws.ensures in
    λ program actions call answer right is.
    let begin = m.begin program in
    let fine = accounted m.next m.answers m.waiting m.begin m.runs laws.none_waits laws.starts laws.keeps laws.accounts program actions right in
    let replied = has_map call_of answer (replay_answers m.next m.answers begin actions) is.1 in
    let counted = fine.known call (subst (λ (name : CallName). Has name (map call_of (replay_answers m.next m.answers begin actions))) is.0 replied) in
    let place = has_place m.next m.answers begin actions call counted in
    (place.0, record { is_place = place.1; only = λ other at. one_place m.next m.answers begin actions call other place.0 at place.1 })
