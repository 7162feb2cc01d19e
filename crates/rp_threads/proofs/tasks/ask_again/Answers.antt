-- The packet of the step is put.
use Rattle.rp_replica.specs.rp_model.specs.Tasks.{Again}
use Rattle.rp_threads.proofs.TaskSteps.{sent_once, few_of_again, asked_by_turn, asked_got}
use Rattle.rp_threads.proofs.tasks.ask_again.Goals as goal

pub put_sent-requires-clause-sent : goal.put_sent-requires-clause-sent
put_sent-requires-clause-sent g c = sent_once c.args.seat.now c.retry.new.self (Again c.args.node) c.in_ok-sent.sent c.in_ok-sent.ensures.ok

pub put_sent-requires-clause-few : goal.put_sent-requires-clause-few
put_sent-requires-clause-few g c = few_of_again c.args.seat.now c.retry.new.self c.in_ok-sent.sent c.args.node c.in_ok-sent.ensures.ok

pub returns-clause-ok : goal.returns-clause-ok
returns-clause-ok g c =
    let m = g.M.Machine in
    asked_by_turn m.next m.answers m.begin (Again c.args.node) c.args.seat.now c.retry.new.self c.put_sent.new.seat c.in_ok-sent.sent c.put_sent.result c.in_ok-sent.ensures.ok c.put_sent.ensures

pub returns-clause-got : goal.returns-clause-got
returns-clause-got g c =
    let m = g.M.Machine in
    asked_got m.next m.answers m.begin (Again c.args.node) c.args.seat.now c.put_sent.new.seat c.put_sent.result (returns-clause-ok g c)
