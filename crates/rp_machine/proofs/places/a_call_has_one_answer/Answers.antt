-- No call is answered twice.
use Rattle.std.proofs.Common.{sym, ◌∙◌}
use Rattle.rp_machine.specs.Calls.{call_of}
use Rattle.rp_machine.specs.Replay.{replay_answers}
use Rattle.rp_machine.proofs.Applying.{accounted}
use Rattle.rp_machine.proofs.Placing.{one_of_image}
use Rattle.rp_machine.proofs.places.a_call_has_one_answer.Goals as goal

pub returns : goal.returns
returns g c =
    let m = g.M.Machine in
    let laws = c.laws.ensures in
    λ program actions call one other right answer again.
    one_of_image call_of (replay_answers m.next m.answers (m.begin program) actions) one other
    (accounted m.next m.answers m.waiting m.begin m.runs laws.none_waits laws.starts laws.keeps laws.accounts program actions right).once
    answer.1 again.1 (answer.0 ∙ sym again.0)
