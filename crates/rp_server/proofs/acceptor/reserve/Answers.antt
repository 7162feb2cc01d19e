use Rattle.rp_server.proofs.Keeping.{room_promise, room_vote, room_range}
use Rattle.rp_server.proofs.acceptor.reserve.Goals as goal

pub returns-in-Promised-clause-room : goal.returns-in-Promised-clause-room
returns-in-Promised-clause-room c =
    room_promise c.args.acceptor.now c.reserve.new.self c.args.rec.now c.reserve.result c.in-Promised.position c.in-Promised.field-1 c.in-Promised.is c.reserve.ensures.ok

pub returns-in-Voted-clause-room : goal.returns-in-Voted-clause-room
returns-in-Voted-clause-room c =
    room_vote c.args.acceptor.now c.reserve_vote.new.self c.args.rec.now c.reserve_vote.result c.in-Voted.position c.in-Voted.field-1 c.in-Voted.field-2 c.in-Voted.is c.reserve_vote.ensures.ok

pub returns-in-PromisedRange-clause-room : goal.returns-in-PromisedRange-clause-room
returns-in-PromisedRange-clause-room c =
    room_range c.args.acceptor.now c.reserve_range.new.self c.args.rec.now c.reserve_range.result c.in-PromisedRange.range c.in-PromisedRange.field-1 c.in-PromisedRange.is c.reserve_range.ensures.ok
