-- The one order of all actions that a look at the table shows: to the audit, to a task, or to both.
use Rattle.std.specs.Prelude.{◌≡◌, ℕ, ◌+◌, ◌≤◌, Some, List, [], ◌∷◌, slice_get}
use Rattle.rp_base.specs.Number.{IsTask}
use Rattle.rp_base.specs.declared.action.Action.{Action}
use Rattle.rp_base.specs.declared.reply.Answer.{Answer}
use Rattle.rp_model.specs.rp_machine.specs.Places.{IsPlace}
use Rattle.rp_model.specs.Effect.{Setting}
use Rattle.rp_model.specs.Facts.{IsOrder}
use Rattle.rp_agreement.specs.Answered.{named, calls_so_far}
use Rattle.rp_agreement.specs.Order.{IsPrefix}
use Rattle.rp_board.specs.Looks.{IsWorldOf}
use Rattle.rp_board.specs.Parts.{Part, View}
use Rattle.rp_board.specs.Rule.{all_sent, task_among}
use Rattle.rp_board.specs.Seats.{SeatState, setting_at}
use Rattle.rp_boxes.specs.Audits.{Audited, ReportSays, known_of}
use Rattle.rp_boxes.specs.TaskSeats.{IsOfOrder}

-- The list is the order of a world that contains this view: the longest list whose action at each
-- position is decided there, by the packets that the actors of that world sent. A call that takes
-- effect in it is one that a task of that world made, and takes effect at one place.
pub record IsWorldOrder {S : Type 0} (s : Setting S) (view : View) (order : List Action)
    : Type 0 where
  pub parts : ℕ → Part
  pub world : IsWorldOf s view parts
  pub decided : IsOrder s.config.nodes (all_sent parts 16) order
  pub made : (t n place : ℕ) → IsPlace s.next s.answers s.begin order (named t n) place
      → IsTask t × (1 ≤ n) × (n ≤ calls_so_far (task_among parts t))
  pub once : (t n one other : ℕ) → IsPlace s.next s.answers s.begin order (named t n) one
      → IsPlace s.next s.answers s.begin order (named t n) other → one ≡ other

module _ {S P : Type 0} (next : S → Action → S) (answers : S → Action → List Answer)
    (begin : P → S) where
  -- There is one order, that of a world that contains the audit's part, in which each action of
  -- each report that the audit got is at its position.
  pub record ReportOneOrder (seat : SeatState P) : Type 0 where
    pub order : List Action
    pub of_world : IsWorldOrder (setting_at next answers begin seat) ((0, seat.part) ∷ []) order
    pub describes : (node before : ℕ) (action : Action)
        → ReportSays seat.part.got node before action → slice_get order before ≡ Some action

  -- There is one order, that of a world that contains the audit's part, of which the known actions
  -- of each node are a prefix.
  pub record AreOfOneOrder (audit : Audited P) : Type 0 where
    pub order : List Action
    pub of_world : IsWorldOrder (setting_at next answers begin audit.seat)
        ((0, audit.seat.part) ∷ []) order
    pub begins : (node : ℕ) → IsPrefix (known_of audit.known node) order

  -- There is one order, that of a world that contains the task's part, and the task follows it.
  pub record HasOneOrder (seat : SeatState P) : Type 0 where
    pub order : List Action
    pub of_world : IsWorldOrder (setting_at next answers begin seat)
        ((7 + seat.setup.number, seat.part) ∷ []) order
    pub task : IsOfOrder next answers (begin seat.setup.program) order seat.setup.number seat.part

  -- There is one order, that of a world that contains the parts of the audit and of the task. The
  -- known actions of each node are a prefix of it, and the task follows it.
  pub record ShareOneOrder (audit : Audited P) (seat : SeatState P) : Type 0 where
    pub order : List Action
    pub of_world : IsWorldOrder (setting_at next answers begin seat)
        ((7 + seat.setup.number, seat.part) ∷ (0, audit.seat.part) ∷ []) order
    pub begins : (node : ℕ) → IsPrefix (known_of audit.known node) order
    pub task : IsOfOrder next answers (begin seat.setup.program) order seat.setup.number seat.part
