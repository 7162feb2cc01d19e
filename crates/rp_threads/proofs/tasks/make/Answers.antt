-- The packet of the step is put.
use Rattle.std.proofs.Common.{rules, subst, ℤ, w64, FitsSigned}
use Rattle.std.proofs.lemmas.Int.{to_z-of_z}
use Rattle.rp_boxes.specs.TaskSeats.{IsTaskTurn}
use Rattle.rp_replica.specs.rp_model.specs.Tasks.{Submit}
use Rattle.rp_threads.proofs.TaskSteps.{sent_once, few_of_call, asked_by_turn, asked_got}
use Rattle.rp_threads.proofs.tasks.make.Goals as goal

pub put_sent-requires-clause-sent : goal.put_sent-requires-clause-sent
put_sent-requires-clause-sent g c =
    let call = c.args.call in
    sent_once c.args.seat.now c.call.new.self (Submit call.node call.object call.operation _) c.in_ok-sent.sent c.in_ok-sent.ensures.ok

pub put_sent-requires-clause-few : goal.put_sent-requires-clause-few
put_sent-requires-clause-few g c =
    let call = c.args.call in
    few_of_call c.args.seat.now c.call.new.self c.in_ok-sent.sent call.node call.object call.operation _ c.in_ok-sent.ensures.ok

pub returns-clause-ok : goal.returns-clause-ok
returns-clause-ok g c =
    let m = g.M.Machine in
    let old = c.args.seat.now in
    let stepped = c.call.new.self in
    let call = c.args.call in
    let sent = c.in_ok-sent.sent in
    let fits : FitsSigned w64 call.arg = search rules in
    let turn = subst (λ (z : ℤ). IsTaskTurn old (Submit call.node call.object call.operation z) stepped sent) (to_z-of_z w64 call.arg fits) c.in_ok-sent.ensures.ok in
    asked_by_turn m.next m.answers m.begin (Submit call.node call.object call.operation call.arg) old stepped c.put_sent.new.seat sent c.put_sent.result turn c.put_sent.ensures

pub returns-clause-got : goal.returns-clause-got
returns-clause-got g c =
    let m = g.M.Machine in
    let call = c.args.call in
    asked_got m.next m.answers m.begin (Submit call.node call.object call.operation call.arg) c.args.seat.now c.put_sent.new.seat c.put_sent.result (returns-clause-ok g c)
