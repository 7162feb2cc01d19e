-- The packet that was fetched, and the work after it.
use Rattle.std.proofs.Common.{inl}
use Rattle.rp_board.proofs.SeatBoxes.{at_fault}
use Rattle.rp_codec.specs.declared.packet.Party.TheVariants.{Node}
use Rattle.rp_threads.proofs.Steps.{is_turn, is_stopped}
use Rattle.rp_threads.proofs.Texts.{is_brought, fetched_held, is_lost}
use Rattle.rp_threads.proofs.turns.node_turn.Goals as goal

pub work-requires : goal.work-requires
work-requires g c =
    let f = c.fetch-fetched in
    let t = c.take_fetched in
    record {
      held = fetched_held c.args.from (Node c.args.seat.now.setup.number) c.args.seat.now f.new.self f.result f.ensures.some f.ensures.none c.args.line.now t.new.line t.result t.ensures.ok t.ensures.err
          c.gives_what_it_took.ensures.accepted c.requires.held;
    }

pub returns-clause-ok : goal.returns-clause-ok
returns-clause-ok g c =
    let m = g.M.Machine in
    let f = c.fetch-fetched in
    let w = c.work in
    let line = c.take_fetched.new.line in
    is_turn m.next m.answers m.begin c.args.from c.args.lead c.args.seat.now w.new.seat c.args.line.now w.new.line f.new.self line
    (is_brought m.next m.answers m.begin Node f.result f.ensures.some f.ensures.none f.ensures.missed c.args.line.now line c.in_ok-take_fetched.ensures.ok) w.ensures.line w.result w.ensures.turn w.ensures.ok

pub returns-clause-err : goal.returns-clause-err
returns-clause-err g c =
    let m = g.M.Machine in
    let f = c.fetch-fetched in
    let w = c.work in
    let line = c.take_fetched.new.line in
    is_stopped m.next m.answers m.begin c.args.from c.args.lead c.args.seat.now w.new.seat c.args.line.now w.new.line f.new.self line
    (is_brought m.next m.answers m.begin Node f.result f.ensures.some f.ensures.none f.ensures.missed c.args.line.now line c.in_ok-take_fetched.ensures.ok) w.ensures.line w.result w.ensures.err

pub returns-in_err-take_fetched-clause-held : goal.returns-in_err-take_fetched-clause-held
returns-in_err-take_fetched-clause-held g c =
    let f = c.fetch-fetched in
    let t = c.take_fetched in
    fetched_held c.args.from (Node c.args.seat.now.setup.number) c.args.seat.now f.new.self f.result f.ensures.some f.ensures.none c.args.line.now t.new.line t.result t.ensures.ok t.ensures.err
    c.gives_what_it_took.ensures.accepted c.requires.held

pub returns-in_err-take_fetched-clause-err : goal.returns-in_err-take_fetched-clause-err
returns-in_err-take_fetched-clause-err g c =
    let f = c.fetch-fetched in
    let lost = c.in_err-take_fetched in
    at_fault _ lost.field-0.0 c.from_residual.result c.from_residual.ensures.1
    (inl (is_lost f.result f.ensures.some c.args.line.now c.take_fetched.new.line lost.field-0.0 lost.ensures.err lost.ensures.fetched lost.ensures.only))
