-- The step is the seat's turn, and its packets are put.
use Rattle.std.proofs.Common.{◌≡◌}
use Rattle.rp_threads.proofs.Steps.{sent_by, event_by, event_got}
use Rattle.rp_threads.proofs.turns.node_step.Goals as goal

pub put_all-losses-requires : goal.put_all-losses-requires
put_all-losses-requires g c =
    let m = g.M.Machine in
    sent_by m.next m.answers m.begin c.args.seat.now c.turn.new.self c.args.input.now c.in_ok-sent.sent c.in_ok-sent.ensures.ok

pub returns-clause-ok : goal.returns-clause-ok
returns-clause-ok g c =
    let m = g.M.Machine in
    event_by m.next m.answers m.begin c.args.seat.now c.turn.new.self c.put_all-losses.new.seat c.args.input.now c.in_ok-sent.sent c.put_all-losses.result.lost c.put_all-losses.result.uncopied c.in_ok-sent.ensures.ok c.put_all-losses.ensures.offered c.put_all-losses.ensures.alone

pub returns-clause-got : goal.returns-clause-got
returns-clause-got g c =
    let m = g.M.Machine in
    event_got m.next m.answers m.begin (λ given. given ≡ c.args.input.now) c.args.seat.now c.put_all-losses.new.seat _ (returns-clause-ok g c)
