-- The call is one event of the task, or none.
use Rattle.std.proofs.Common.{◌≡◌, Some, Ok, inl, refl, sym, ap, subst, ◌∙◌}
use Rattle.std.specs.Prelude.{FitsSigned, IfErr}
use Rattle.std.specs.Int.{w64}
use Rattle.std.proofs.lemmas.Int.{to_z-of_z}
use Rattle.rp_base.specs.Action.{IsRight}
use Rattle.rp_base.specs.declared.action.Action.{Action}
use Rattle.rp_base.specs.declared.fault.Fault.TheVariants.{OutOfMemory}
use Rattle.rp_codec.specs.Message.{IsCallBy}
use Rattle.rp_codec.specs.declared.packet.Body.TheVariants as bodies
use Rattle.rp_model.specs.Tasks.{asks, next_call}
use Rattle.rp_agreement.specs.Inputs.{IsTaskInput}
use Rattle.rp_agreement.specs.Sound.{IsCall}
use Rattle.rp_actors.specs.Callers.{Caller}
use Rattle.rp_board.specs.Seats.{SeatState}
use Rattle.rp_board.proofs.SeatBoxes.{at_fault}
use Rattle.rp_boxes.specs.TaskSeats.{asked_of, IsTaskAt, IsTaskTurn, IsNoTaskTurn}
use Rattle.rp_boxes.proofs.TaskTurns.{Submission, IsSubmitted, TaskEvent, waiting_for, asking_done, submit, submitted, waits_for_one, task_event, task_after, asked_state, refused_state, no_memory_state}
use Rattle.rp_boxes.proofs.task_seat.TaskSeat.call.Given as given
use Rattle.rp_boxes.proofs.task_seat.TaskSeat.call.Goals as goal
use Rattle.rp_boxes.proofs.task_seat.TaskSeat.call.Goals.{In_ok-next, After-call}

-- ---- what the goals share

-- the task makes the call
module _ (g : given.Over) (c : In_ok-next g) where
  abbrev seat : SeatState g.row.M-Program.Denot
  seat = c.self.inside.seat

  abbrev to_submit : Submission g.row.M-Program.Denot
  to_submit = record {
    mine = c.self.inside.config;
    caller = c.self.inside.task;
    setup = seat.setup;
    role = seat.part.role;
    sits = c.self.invariant;
    node = c.args.node;
    object = c.args.object;
    operation = c.args.operation;
    arg = c.args.arg;
  }

  abbrev call : Action
  call = c.in_ok-next.field-0

  fits : FitsSigned w64 c.args.arg
  fits = record { sfits = c.ranges.arg.sfits }

  made : IsSubmitted to_submit (Ok call)
  made = submitted to_submit (Ok call) (to_z-of_z w64 c.args.arg fits) c.next.ensures c.in_ok-next.was

  abbrev event : TaskEvent g.row.M-Program.Denot
  event = record {
    mine = c.self.inside.config;
    caller = c.self.inside.task;
    seat = seat;
    sits = c.self.invariant;
    input = submit to_submit;
    done = asking_done seat.setup.number c.args.node (waiting_for c.self.inside.task.part call) (Some call);
    results = made.1;
  }

  is_given : IsTaskInput seat.part.got seat.setup.number event.input
  is_given = (c.node_keeps_range.ensures, fits)

  own : IsCall seat.setup.number (bodies.Call call)
  own =
      let right = c.tasks_send_right_packets.ensures seat.setup.config seat.setup.number event.input c.self.inside.task.part event.done seat.part.got c.self.invariant.waits is_given event.results
      (asks seat.setup.number c.args.node call) (inl refl) in
      (right.0.rules.2, right.0.rules.3)

-- then it waits for the reply
waits : (g : given.Over) (c : After-call g) → c.in_ok-next.field-0 ≡ next_call c.self.inside.task.task c.self.inside.task.part c.args.object c.args.operation c.args.arg
    → c.call.new.self.part ≡ waiting_for c.self.inside.task.part c.in_ok-next.field-0
waits g c is =
    ap (λ (k : Caller). k.part) c.call.ensures
    ∙ ap (waiting_for c.self.inside.task.part) (ap (next_call c.self.inside.task.task c.self.inside.task.part c.args.object c.args.operation) (to_z-of_z w64 c.args.arg (record { sfits = c.ranges.arg.sfits })) ∙ sym is)

-- what it sent
asked : (g : given.Over) (c : After-call g) → asked_of c.number-number.result c.args.node (Some c.in_ok-next.field-0) ≡ asked_of c.self.inside.seat.setup.number c.args.node (Some c.in_ok-next.field-0)
asked g c = ap (λ k. asked_of k c.args.node (Some c.in_ok-next.field-0)) c.number-number.ensures

-- ---- the goals

pub returns-in_err-next-clause-err : goal.returns-in_err-next-clause-err
returns-in_err-next-clause-err g c =
    let inside = c.self.inside in
    let s : Submission g.row.M-Program.Denot = record { mine = inside.config; caller = inside.task; setup = inside.seat.setup; role = inside.seat.part.role; sits = c.self.invariant; node = c.args.node; object = c.args.object; operation = c.args.operation; arg = c.args.arg } in
    let refused = submitted s _ (to_z-of_z w64 c.args.arg (record { sfits = c.ranges.arg.sfits })) c.next.ensures c.in_err-next.was in
    subst (λ (at : SeatState g.row.M-Program.Denot). IfErr c.from_residual.result (λ e. IsNoTaskTurn at (submit s) at e)) c.self.view_is
    (at_fault (IsNoTaskTurn inside.seat (submit s) inside.seat) c.in_err-next.field-0.0 c.from_residual.result c.from_residual.ensures.1
    (refused_state inside.config inside.task inside.seat c.self.invariant (submit s) c.in_err-next.field-0.0 refused.1))

pub asking-requires-clause-own : goal.asking-requires-clause-own
asking-requires-clause-own g c = subst (λ k. IsCallBy k c.in_ok-next.field-0) (sym c.number-number.ensures) (own g (goal.at.asking-requires-clause-own g c).In_ok-next).0

pub asking-requires-clause-right : goal.asking-requires-clause-right
asking-requires-clause-right g c = (own g (goal.at.asking-requires-clause-right g c).In_ok-next).1

pub returns-in_err-sent-clause-err : goal.returns-in_err-sent-clause-err
returns-in_err-sent-clause-err g c =
    let at = event g (goal.at.returns-in_err-sent-clause-err g c).In_ok-next in
    let seat = c.self.inside.seat in
    subst (λ (z : SeatState g.row.M-Program.Denot × SeatState g.row.M-Program.Denot). IfErr c.from_residual-in_err-sent.result (λ e. IsNoTaskTurn z.0 at.input z.1 e)) (λ i. (c.self.view_is i, sym c.buffer-buffer.ensures.unchanged i))
    (at_fault (IsNoTaskTurn seat at.input seat) OutOfMemory c.from_residual-in_err-sent.result c.from_residual-in_err-sent.ensures.1 (no_memory_state at))

pub invariant_of-self : goal.invariant_of-self
invariant_of-self g c = subst (λ (seat : SeatState g.row.M-Program.Denot). IsTaskAt c.self.inside.config c.self.inside.task seat.setup seat.part.role) (sym c.buffer-buffer.ensures.unchanged) c.self.invariant

pub call-requires-clause-operation : goal.call-requires-clause-operation
call-requires-clause-operation g c =
    let at = (goal.at.call-requires-clause-operation g c).In_ok-next in
    (subst IsRight (made g at).0 (own g at).1).3

pub note-requires : goal.note-requires
note-requires g c =
    let at = goal.at.note-requires g c in
    let e = event g at.In_ok-next in
    task_event e _ c.buffer-buffer.ensures.unchanged c.call.new.self.part _ (waits g at.After-call (made g at.In_ok-next).0) (asked g at.After-call) g.M.Machine (is_given g at.In_ok-next)

pub invariant_of-self-2 : goal.invariant_of-self-2
invariant_of-self-2 g c =
    let at = goal.at.invariant_of-self-2 g c in
    let e = event g at.In_ok-next in
    task_after e _ c.buffer-buffer.ensures.unchanged c.call.new.self _ c.note.new.self c.note.ensures (ap (λ (k : Caller). k.task) c.call.ensures)
    (waits_for_one c.self.inside.seat.setup.number c.self.inside.task.part c.call.new.self.part (call g at.In_ok-next) (waits g at.After-call (made g at.In_ok-next).0) (own g at.In_ok-next))

pub returns-clause-ok : goal.returns-clause-ok
returns-clause-ok g c =
    let at = goal.at.returns-clause-ok g c in
    let e = event g at.In_ok-next in
    subst (λ (old : SeatState g.row.M-Program.Denot). IsTaskTurn old e.input c.note.new.self c.in_ok-sent.sent) c.self.view_is
    (asked_state e _ c.buffer-buffer.ensures.unchanged c.call.new.self _ c.note.new.self c.note.ensures (waits g at.After-call (made g at.In_ok-next).0) (asked g at.After-call) c.in_ok-sent.sent c.in_ok-sent.ensures)
