-- The turn was busy; or it was idle, and the node led anew or need not.
use Rattle.std.proofs.Common.{refl, sym, ◌∙◌}
use Rattle.rp_board.proofs.SeatBoxes.{at_fault}
use Rattle.rp_threads.specs.Rounds.{WorkerAt, IsUnmade, worker_at}
use Rattle.rp_threads.proofs.Leads.{busy_turn, idle_of, idle_turn, led_anew, not_led_anew, unmade}
use Rattle.rp_threads.proofs.loops.Worker.work.Goals as goal

pub returns-in_err-turned-clause-err : goal.returns-in_err-turned-clause-err
returns-in_err-turned-clause-err g c =
    let m = g.M.Machine in
    let a = c.args in
    let new : WorkerAt g.row.M-Program.Denot = record { seat = c.node_turn.new.seat; line = c.node_turn.new.line; patience = a.self.now.patience } in
    let fault = c.in_err-turned.field-0.0 in
    at_fault (IsUnmade m.next m.answers m.begin a.from a.lead (worker_at a.self.now) new) fault c.from_residual.result c.from_residual.ensures.1
    (unmade m.next m.answers m.begin a.from a.lead (worker_at a.self.now) new refl fault c.in_err-turned.ensures.err)

pub returns-then-not-is_idle-clause-ok : goal.returns-then-not-is_idle-clause-ok
returns-then-not-is_idle-clause-ok g c =
    let m = g.M.Machine in
    let a = c.args in
    let turned = c.in_ok-turned in
    let new : WorkerAt g.row.M-Program.Denot = record { seat = c.node_turn.new.seat; line = c.node_turn.new.line; patience = a.self.now.patience } in
    busy_turn m.next m.answers m.begin a.from a.lead (worker_at a.self.now) new turned.turned turned.ensures.ok (sym c.is_idle.ensures ∙ c.if-not-is_idle.true) refl

pub returns-in-Some-clause-ok : goal.returns-in-Some-clause-ok
returns-in-Some-clause-ok g c =
    let m = g.M.Machine in
    let a = c.args in
    let turned = c.in_ok-turned in
    let new : WorkerAt g.row.M-Program.Denot = record { seat = c.lead_at.new.seat; line = c.node_turn.new.line; patience = c.position_to_lead.new.patience } in
    led_anew m.next m.answers m.begin a.from a.lead (worker_at a.self.now) new turned.turned c.node_turn.new.seat turned.ensures.ok
    (idle_of turned.turned.turn (sym c.is_idle.ensures ∙ c.if-not-is_idle.false)) c.in-Some.ensures.waited c.position_to_lead.ensures.counts c.lead_at.result c.lead_at.ensures.ok

pub returns-in-Some-clause-err : goal.returns-in-Some-clause-err
returns-in-Some-clause-err g c =
    let m = g.M.Machine in
    let a = c.args in
    let turned = c.in_ok-turned in
    let new : WorkerAt g.row.M-Program.Denot = record { seat = c.lead_at.new.seat; line = c.node_turn.new.line; patience = c.position_to_lead.new.patience } in
    not_led_anew m.next m.answers m.begin a.from a.lead (worker_at a.self.now) new turned.turned c.node_turn.new.seat turned.ensures.ok
    (idle_of turned.turned.turn (sym c.is_idle.ensures ∙ c.if-not-is_idle.false)) c.in-Some.ensures.waited c.position_to_lead.ensures.counts c.lead_at.result c.lead_at.ensures.err

pub returns-in-None-clause-ok : goal.returns-in-None-clause-ok
returns-in-None-clause-ok g c =
    let m = g.M.Machine in
    let a = c.args in
    let turned = c.in_ok-turned in
    let new : WorkerAt g.row.M-Program.Denot = record { seat = c.node_turn.new.seat; line = c.node_turn.new.line; patience = c.position_to_lead.new.patience } in
    idle_turn m.next m.answers m.begin a.from a.lead (worker_at a.self.now) new turned.turned turned.ensures.ok
    (idle_of turned.turned.turn (sym c.is_idle.ensures ∙ c.if-not-is_idle.false)) c.in-None.ensures.none c.position_to_lead.ensures.counts
