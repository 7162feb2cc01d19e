-- What a task learns of the order from a world.
use Rattle.std.proofs.Common.{◌≡◌, ◌↔◌, ℕ, ◌+◌, suc, ◌<◌, Some, List, [], ◌∷◌, slice_get, inl, refl, sym, ap, subst}
use Rattle.rp_base.specs.Sets.{Has}
use Rattle.rp_base.specs.declared.action.Action.{Action}
use Rattle.rp_base.specs.declared.reply.Answer.{Answer}
use Rattle.rp_model.specs.rp_machine.specs.Places.{HasReply}
use Rattle.rp_model.specs.rp_machine.specs.Replay.{counted_of}
use Rattle.rp_model.specs.Effect.{Setting}
use Rattle.rp_model.specs.Parts.{TaskPart}
use Rattle.rp_model.specs.Tasks.{asks}
use Rattle.rp_agreement.specs.Answered.{AreItsCalls, named}
use Rattle.rp_agreement.specs.Computed.{order_of}
use Rattle.rp_agreement.specs.Asked.{Asks}
use Rattle.rp_board.specs.Looks.{HasWorld, IsWorldOf}
use Rattle.rp_board.specs.OrderLaws.{OrderLaws}
use Rattle.rp_board.specs.Parts.{Part, View, task_of}
use Rattle.rp_board.specs.Rule.{node_among, task_among, all_sent}
use Rattle.rp_board.specs.Seats.{SeatState, setting_at}
use Rattle.rp_board.proofs.Worlds.{sent_by, is_sent}
use Rattle.rp_boxes.specs.OneOrder.{HasOneOrder}
use Rattle.rp_boxes.specs.TaskSeats.{IsOfOrder}
use Rattle.rp_boxes.proofs.WorldOrder.{world_order}

module _ {S : Type 0} (s : Setting S) (view : View) (parts : ℕ → Part) (world : IsWorldOf s view parts) (number : ℕ) (part : Part) (known : Has (7 + number, part) view) where
  was : parts (7 + number) ≡ part
  was = (world.knows (7 + number) part known).0

  small : 7 + number < 16
  small = (world.knows (7 + number) part known).1

  -- what the task asked for is what the seat sent
  own_asks : (action : Action) → Asks (all_sent parts 16) number action ↔ Asks part.sent number action
  own_asks action = (there, back)
    where
      there : Asks (all_sent parts 16) number action → Asks part.sent number action
      there asked =
          let by = is_sent parts 16 (asks number asked.0 action) asked.1 in
          let from : 7 + number ≡ by.0 = world.is.sends by.0 by.1 (asks number asked.0 action) by.2 in
          let here : Has (asks number asked.0 action) (parts (7 + number)).sent = subst (λ (k : ℕ). Has (asks number asked.0 action) (parts k).sent) (sym from) by.2 in
          (asked.0, subst (λ (p : Part). Has (asks number asked.0 action) p.sent) was here)

      back : Asks part.sent number action → Asks (all_sent parts 16) number action
      back asked = (asked.0, sent_by parts 16 (7 + number) (asks number asked.0 action) small (subst (λ (p : Part). Has (asks number asked.0 action) p.sent) (sym was) asked.1))

  own_calls : (task : TaskPart) (actions : List Action) → AreItsCalls (all_sent parts 16) number task actions → AreItsCalls part.sent number task actions
  own_calls task actions are = record {
    made = are.made;
    are_made = record {
      asked = λ action. (λ h. (own_asks action).0 ((are.are_made.asked action).0 h), λ asked. (are.are_made.asked action).1 ((own_asks action).1 asked));
      numbered = are.are_made.numbered;
      waits = are.are_made.waits;
    };
    all_but_last = are.all_but_last;
  }

  -- the task follows the order of what was sent
  pub of_order : OrderLaws s → IsOfOrder s.next s.answers s.begin (order_of s.config.nodes (all_sent parts 16)) number part
  of_order laws =
      let task : task_among parts number ≡ task_of part.role = ap (λ (p : Part). task_of p.role) was in
      let order = order_of s.config.nodes (all_sent parts 16) in
      record {
        replies = subst (λ (t : TaskPart). (k : ℕ) (answer : Answer) → slice_get t.replies k ≡ Some answer → HasReply s.next s.answers s.begin order (named number (suc k)) answer) task
            (laws.replies (node_among parts) (task_among parts) (all_sent parts 16) world.is.good.kept number);
        calls = own_calls (task_of part.role) (counted_of s.next s.answers s.begin order)
            (subst (λ (t : TaskPart). AreItsCalls (all_sent parts 16) number t (counted_of s.next s.answers s.begin order)) task (laws.calls (node_among parts) (task_among parts) (all_sent parts 16) world.is.good.kept number));
      }

-- the order that a task's place shows
module _ {S P : Type 0} (next : S → Action → S) (answers : S → Action → List Answer) (begin : P → S) (seat : SeatState P) where
  abbrev its_setting : Setting S
  its_setting = setting_at next answers begin seat

  pub one_order : HasWorld its_setting ((7 + seat.setup.number, seat.part) ∷ []) → OrderLaws its_setting → HasOneOrder next answers begin seat
  one_order seen laws =
      let view = (7 + seat.setup.number, seat.part) ∷ [] in
      record {
        order = order_of seat.setup.config.nodes (all_sent seen.0 16);
        of_world = world_order its_setting view seen.0 seen.1 laws;
        task = of_order its_setting view seen.0 seen.1 seat.setup.number seat.part (inl refl) laws;
      }
