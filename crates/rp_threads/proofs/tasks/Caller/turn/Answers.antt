-- What was brought and heard, and what was asked then.
use Rattle.std.proofs.Common.{◌∙◌, ap, refl}
use Rattle.rp_base.specs.declared.fault.Fault.{Fault}
use Rattle.rp_board.proofs.SeatBoxes.{at_fault}
use Rattle.rp_codec.specs.declared.packet.Party.TheVariants.{Node, Task}
use Rattle.rp_threads.specs.Tasks.{TaskAt}
use Rattle.rp_threads.specs.TaskRounds.{IsUnmadeTurn, with_lost}
use Rattle.rp_threads.proofs.Texts.{is_brought, fetched_held, is_lost}
use Rattle.rp_threads.proofs.TaskChains.{turn_made, turn_unmade, turn_lost}
use Rattle.rp_threads.proofs.tasks.Caller.turn.Goals as goal

pub returns-clause-ok : goal.returns-clause-ok
returns-clause-ok g c =
    let m = g.M.Machine in
    let a = c.args in
    let self = a.self.now in
    let old : TaskAt g.row.M-Program.Denot = record { seat = self.seat; line = self.link; so_far = self.so_far } in
    let new : TaskAt g.row.M-Program.Denot = record { seat = c.ask.new.self.seat; line = c.ask.new.self.link; so_far = c.lose.new.self } in
    let f = c.fetch-fetched in
    let line = c.take_fetched.new.line in
    let lost = c.in_ok-lost.lost in
    turn_made m.next m.answers m.begin a.nodes a.calls.now a.turn old new f.new.self line c.node_in_turn.result c.node_in_turn.ensures
    (is_brought m.next m.answers m.begin Task f.result f.ensures.some f.ensures.none f.ensures.missed self.link line c.in_ok-take_fetched.ensures.ok) c.hear.new.seat c.hear-2.new.self c.in_ok-answered.answered c.in_ok-answered.ensures.ok
    (c.ask.ensures.link ∙ c.hear.ensures.line) c.hear-2.ensures lost c.in_ok-lost.ensures.ok (c.lose.ensures ∙ ap (with_lost lost) c.in_ok-lost.ensures.made)

pub returns-in_err-lost-clause-err : goal.returns-in_err-lost-clause-err
returns-in_err-lost-clause-err g c =
    let m = g.M.Machine in
    let a = c.args in
    let self = a.self.now in
    let old : TaskAt g.row.M-Program.Denot = record { seat = self.seat; line = self.link; so_far = self.so_far } in
    let new : TaskAt g.row.M-Program.Denot = record { seat = c.ask.new.self.seat; line = c.ask.new.self.link; so_far = c.ask.new.self.so_far } in
    let f = c.fetch-fetched in
    let line = c.take_fetched.new.line in
    let fault = c.in_err-lost.field-0.0 in
    let refused = c.in_err-lost.ensures.err in
    at_fault (λ (e : Fault). IsUnmadeTurn m.next m.answers m.begin a.nodes a.calls.now a.turn old new e) fault c.from_residual-in_err-lost.result c.from_residual-in_err-lost.ensures.1
    (turn_unmade m.next m.answers m.begin a.nodes a.calls.now a.turn old new f.new.self line c.node_in_turn.result c.node_in_turn.ensures
    (is_brought m.next m.answers m.begin Task f.result f.ensures.some f.ensures.none f.ensures.missed self.link line c.in_ok-take_fetched.ensures.ok) c.hear.new.seat c.hear-2.new.self c.in_ok-answered.answered c.in_ok-answered.ensures.ok
    (c.ask.ensures.link ∙ c.hear.ensures.line) c.hear-2.ensures fault refused.0 refused.1)

pub hear-requires : goal.hear-requires
hear-requires g c =
    let f = c.fetch-fetched in
    let t = c.take_fetched in
    let self = c.args.self.now in
    record {
      held = fetched_held (Node c.node_in_turn.result) (Task self.seat.setup.number) self.seat f.new.self f.result f.ensures.some f.ensures.none self.link t.new.line t.result t.ensures.ok t.ensures.err
          c.gives_what_it_took.ensures.accepted c.requires.held;
    }

pub returns-in_err-take_fetched-clause-held : goal.returns-in_err-take_fetched-clause-held
returns-in_err-take_fetched-clause-held g c =
    let f = c.fetch-fetched in
    let t = c.take_fetched in
    let self = c.args.self.now in
    fetched_held (Node c.node_in_turn.result) (Task self.seat.setup.number) self.seat f.new.self f.result f.ensures.some f.ensures.none self.link t.new.line t.result t.ensures.ok t.ensures.err
    c.gives_what_it_took.ensures.accepted c.requires.held

pub returns-in_err-take_fetched-clause-err : goal.returns-in_err-take_fetched-clause-err
returns-in_err-take_fetched-clause-err g c =
    let m = g.M.Machine in
    let a = c.args in
    let self = a.self.now in
    let f = c.fetch-fetched in
    let line = c.take_fetched.new.line in
    let lost = c.in_err-take_fetched in
    let old : TaskAt g.row.M-Program.Denot = record { seat = self.seat; line = self.link; so_far = self.so_far } in
    let new : TaskAt g.row.M-Program.Denot = record { seat = f.new.self; line = line; so_far = self.so_far } in
    at_fault _ lost.field-0.0 c.from_residual.result c.from_residual.ensures.1
    (turn_lost m.next m.answers m.begin a.nodes a.calls.now a.turn old new c.node_in_turn.result lost.field-0.0 c.node_in_turn.ensures
    (is_lost f.result f.ensures.some self.link line lost.field-0.0 lost.ensures.err lost.ensures.fetched lost.ensures.only) refl)
