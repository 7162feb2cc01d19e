-- A packet that arrives is one event of the task, and the look after it shows the order.
use Rattle.std.proofs.Common.{◌≡◌, ℕ, [], refl, sym, ap, subst, ◌∙◌}
use Rattle.rp_base.specs.Number.{IsTask}
use Rattle.rp_codec.specs.declared.packet.Party.TheVariants as parties
use Rattle.rp_model.specs.Tasks.{Take}
use Rattle.rp_agreement.specs.Inputs.{IsTaskInput}
use Rattle.rp_actors.specs.Callers.{Caller}
use Rattle.rp_actors.proofs.Replied.{reply_of_text}
use Rattle.rp_board.specs.Seats.{SeatState, IsGotText}
use Rattle.rp_board.proofs.SeatBoxes.{same_party}
use Rattle.rp_boxes.specs.OneOrder.{HasOneOrder}
use Rattle.rp_boxes.specs.TaskSeats.{reply_effect, IsReplyTurn}
use Rattle.rp_boxes.proofs.TaskOrder.{one_order}
use Rattle.rp_boxes.proofs.TaskTurns.{TaskEvent, reply_results, reply_quiet, task_event, replied_state}
use Rattle.rp_boxes.proofs.task_seat.TaskSeat.reply.Given as given
use Rattle.rp_boxes.proofs.task_seat.TaskSeat.reply.Goals as goal
use Rattle.rp_boxes.proofs.task_seat.TaskSeat.reply.Goals.{In_ok-taken}

-- the packet arrives at the task
module _ (g : given.Over) (c : In_ok-taken g) where
  abbrev seat : SeatState g.row.M-Program.Denot
  seat = c.self.inside.seat

  got : IsGotText seat.part c.args.packet.now
  got = subst (λ (seen : SeatState g.row.M-Program.Denot). IsGotText seen.part c.args.packet.now) (sym c.self.view_is) c.requires.got

  abbrev event : TaskEvent g.row.M-Program.Denot
  event = record {
    mine = c.self.inside.config;
    caller = c.self.inside.task;
    seat = seat;
    sits = c.self.invariant;
    input = Take got.0;
    done = reply_effect seat.setup.number c.self.inside.task.part c.in_ok-stated.stated;
    results = reply_results seat.setup.config seat.setup.number c.self.inside.task.part got.0 c.in_ok-stated.stated
        (reply_of_text c.args.packet.now got.0 c.in_ok-stated.stated (c.packets_are_right.ensures.got got.0 got.1).0 got.2 c.in_ok-stated.ensures.reply);
  }

  is_given : IsTaskInput seat.part.got seat.setup.number event.input
  is_given =
      let right = c.packets_are_right.ensures.got got.0 got.1 in
      (got.1, same_party got.0.to (parties.Task seat.setup.number) right.0.ranges.to (subst IsTask c.self.invariant.named c.self.invariant.task) right.1)

  now : c.take.new.task.part ≡ event.done.part
  now = ap (λ (k : Caller). k.part) c.in_ok-taken.ensures.part ∙ ap (λ (k : ℕ). (reply_effect k c.self.inside.task.part c.in_ok-stated.stated).part) c.self.invariant.named

  taken : c.in_ok-taken.taken ≡ event.done.taken
  taken = c.in_ok-taken.ensures.taken ∙ ap (λ (k : ℕ). (reply_effect k c.self.inside.task.part c.in_ok-stated.stated).taken) c.self.invariant.named

  quiet : [] ≡ event.done.sends
  quiet = sym (reply_quiet seat.setup.number c.self.inside.task.part c.in_ok-stated.stated)

pub note-requires : goal.note-requires
note-requires g c =
    let at = (goal.at.note-requires g c).In_ok-taken in
    task_event (event g at) _ refl c.take.new.task.part [] (now g at) (quiet g at) g.M.Machine (is_given g at)

pub returns-clause-ok : goal.returns-clause-ok
returns-clause-ok g c =
    let at = (goal.at.returns-clause-ok g c).In_ok-taken in
    let e = event g at in
    subst (λ (z : SeatState g.row.M-Program.Denot × SeatState g.row.M-Program.Denot). IsReplyTurn z.0 c.args.packet.now z.1 c.in_ok-taken.taken) (λ i. (c.self.view_is i, sym c.look.ensures.unchanged i))
    (replied_state e _ refl c.take.new.task [] c.note.new.self c.note.ensures (now g at) (quiet g at) (got g at).0 c.args.packet.now c.in_ok-taken.taken refl (got g at).1 (got g at).2 (taken g at))

pub returns-clause-stated : goal.returns-clause-stated
returns-clause-stated g c =
    let m = g.M.Machine in
    let seat = c.note.new.self in
    subst (HasOneOrder m.next m.answers m.begin) (sym c.look.ensures.unchanged) (one_order m.next m.answers m.begin seat c.look.ensures.world (c.order_laws.ensures seat.setup.config seat.setup.program))
