-- The question is one event of the task, or none.
use Rattle.std.proofs.Common.{◌≡◌, true, false, refl, sym, ap, subst, arith}
use Rattle.std.specs.Prelude.{nat_lt, IfErr}
use Rattle.std.proofs.lemmas.Bool.{lt-ltb, le-ltb}
use Rattle.rp_base.specs.declared.config.Config.{Config}
use Rattle.rp_base.specs.declared.fault.Fault.TheVariants.{OutOfMemory, BadConfig}
use Rattle.rp_model.specs.Tasks.{Again}
use Rattle.rp_board.specs.Seats.{SeatState}
use Rattle.rp_board.proofs.SeatBoxes.{at_fault}
use Rattle.rp_boxes.specs.TaskSeats.{asked_of, IsTaskAt, IsTaskTurn, IsNoTaskTurn}
use Rattle.rp_boxes.proofs.TaskTurns.{TaskEvent, asking_done, again_results, again_above, task_event, task_after, asked_state, refused_state, no_memory_state}
use Rattle.rp_boxes.proofs.task_seat.TaskSeat.retry.Given as given
use Rattle.rp_boxes.proofs.task_seat.TaskSeat.retry.Goals as goal
use Rattle.rp_boxes.proofs.task_seat.TaskSeat.retry.Goals.{Else-get-self, In_ok-sent}

-- the task asks a node
module _ (g : given.Over) (c : Else-get-self g) where
  within : nat_lt c.self.inside.seat.setup.config.nodes c.args.node ≡ false
  within = le-ltb c.self.inside.seat.setup.config.nodes c.args.node (omega (arith, c.if-get-self.false, c.get.ensures.value, ap (λ (k : Config). k.nodes) c.self.invariant.shared))

  abbrev event : TaskEvent g.row.M-Program.Denot
  event =
      let seat = c.self.inside.seat in
      let task = c.self.inside.task in
      record {
        mine = c.self.inside.config;
        caller = task;
        seat = seat;
        sits = c.self.invariant;
        input = Again c.args.node;
        done = asking_done seat.setup.number c.args.node task.part task.part.outstanding;
        results = again_results seat.setup.config seat.setup.number c.args.node task.part within;
      }

-- what it sent
asked : (g : given.Over) (c : In_ok-sent g) → asked_of c.number-number.result c.args.node c.outstanding-call.result ≡ asked_of c.self.inside.seat.setup.number c.args.node c.self.inside.task.part.outstanding
asked g c = λ i. asked_of (c.number-number.ensures i) c.args.node (c.outstanding-call.ensures i)

pub returns-then-get-self-clause-err : goal.returns-then-get-self-clause-err
returns-then-get-self-clause-err g c =
    let seat = c.self.inside.seat in
    let over : nat_lt seat.setup.config.nodes c.args.node ≡ true = lt-ltb seat.setup.config.nodes c.args.node (omega (arith, c.if-get-self.true, c.get.ensures.value, ap (λ (k : Config). k.nodes) c.self.invariant.shared)) in
    subst (λ (at : SeatState g.row.M-Program.Denot). IsNoTaskTurn at (Again c.args.node) at BadConfig) c.self.view_is
    (refused_state c.self.inside.config c.self.inside.task seat c.self.invariant (Again c.args.node) BadConfig (again_above seat.setup.config seat.setup.number c.args.node c.self.inside.task.part over))

pub returns-in_err-sent-clause-err : goal.returns-in_err-sent-clause-err
returns-in_err-sent-clause-err g c =
    let at = event g (goal.at.returns-in_err-sent-clause-err g c).Else-get-self in
    let seat = c.self.inside.seat in
    subst (λ (z : SeatState g.row.M-Program.Denot × SeatState g.row.M-Program.Denot). IfErr c.from_residual.result (λ e. IsNoTaskTurn z.0 at.input z.1 e)) (λ i. (c.self.view_is i, sym c.buffer-buffer.ensures.unchanged i))
    (at_fault (IsNoTaskTurn seat at.input seat) OutOfMemory c.from_residual.result c.from_residual.ensures.1 (no_memory_state at))

pub invariant_of-self : goal.invariant_of-self
invariant_of-self g c = subst (λ (seat : SeatState g.row.M-Program.Denot). IsTaskAt c.self.inside.config c.self.inside.task seat.setup seat.part.role) (sym c.buffer-buffer.ensures.unchanged) c.self.invariant

pub note-requires : goal.note-requires
note-requires g c =
    let at = goal.at.note-requires g c in
    task_event (event g at.Else-get-self) _ c.buffer-buffer.ensures.unchanged c.self.inside.task.part _ refl (asked g at.In_ok-sent) g.M.Machine c.get.ensures.in_range

pub invariant_of-self-2 : goal.invariant_of-self-2
invariant_of-self-2 g c =
    let at = goal.at.invariant_of-self-2 g c in
    task_after (event g at.Else-get-self) _ c.buffer-buffer.ensures.unchanged c.self.inside.task _ c.note.new.self c.note.ensures refl c.self.invariant.waits

pub returns-clause-ok : goal.returns-clause-ok
returns-clause-ok g c =
    let at = goal.at.returns-clause-ok g c in
    let e = event g at.Else-get-self in
    subst (λ (seat : SeatState g.row.M-Program.Denot). IsTaskTurn seat e.input c.note.new.self c.in_ok-sent.sent) c.self.view_is
    (asked_state e _ c.buffer-buffer.ensures.unchanged c.self.inside.task _ c.note.new.self c.note.ensures refl (asked g at.In_ok-sent) c.in_ok-sent.sent c.in_ok-sent.ensures)
