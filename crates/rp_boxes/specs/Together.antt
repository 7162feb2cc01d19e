-- What the last look at the table, of all its seats together, shows.
use Rattle.std.specs.Prelude.{◌≡◌, ℕ, ◌+◌, Some, All, List, ◌∷◌, ◌++◌, map, slice_get}
use Rattle.rp_base.specs.Records.{applied_of}
use Rattle.rp_base.specs.Sets.{Has}
use Rattle.rp_base.specs.declared.action.Action.{Action}
use Rattle.rp_base.specs.declared.reply.Answer.{Answer}
use Rattle.rp_agreement.specs.Order.{IsPrefix}
use Rattle.rp_board.specs.Parts.{Part, View, node_of}
use Rattle.rp_board.specs.Rule.{IsGotInOrder}
use Rattle.rp_board.specs.Seats.{SeatState, setting_at}
use Rattle.rp_boxes.specs.Audits.{Audited, ReportSays, known_of}
use Rattle.rp_boxes.specs.OneOrder.{IsWorldOrder}
use Rattle.rp_boxes.specs.TaskSeats.{IsOfOrder}

-- what the place of a node's seat knows, and of a task's
abbrev pub of_node : {P : Type 0} → SeatState P → ℕ × Part
of_node seat = (seat.setup.number, seat.part)

abbrev pub of_task : {P : Type 0} → SeatState P → ℕ × Part
of_task seat = (7 + seat.setup.number, seat.part)

-- what the audit, nodes and tasks know together
abbrev pub known_together : {P : Type 0} → SeatState P → List (SeatState P) → List (SeatState P)
    → View
known_together audit nodes tasks = ((0, audit.part) ∷ map of_node nodes) ++ map of_task tasks

-- What the node of this seat has applied is a prefix of the order, and it reported each action that
-- the audit knows of it, in a packet that it sent.
pub record IsNodeOf {P : Type 0} (order : List Action) (known : List (List Action))
    (seat : SeatState P) : Type 0 where
  pub applied : IsPrefix (applied_of (node_of seat.part.role).records) order
  pub reported : (before : ℕ) (action : Action)
      → slice_get (known_of known seat.setup.number) before ≡ Some action
      → ReportSays seat.part.sent seat.setup.number before action

-- the task of this seat follows the order
abbrev pub IsTaskOf : {S P : Type 0} → (S → Action → S) → (S → Action → List Answer) → S
    → List Action → SeatState P → Type 0
IsTaskOf next answers begin order seat = IsOfOrder next answers begin order seat.setup.number seat.part

-- There is one order for all, that of a world that contains the parts of all of them. What the
-- audit knows of each node is a prefix of it, what each node has applied is a prefix of it, and all
-- tasks follow it. Of any two of the actors, what one got from the other is what the other put for
-- it, in order: all of it, or all but the last packet.
pub record AreTogether {S P : Type 0} (next : S → Action → S) (answers : S → Action → List Answer)
    (begin : P → S) (audit : Audited P) (nodes tasks : List (SeatState P)) : Type 0 where
  pub order : List Action
  pub of_world : IsWorldOrder (setting_at next answers begin audit.seat)
      (known_together audit.seat nodes tasks) order
  pub known : (node : ℕ) → IsPrefix (known_of audit.known node) order
  pub nodes_are : All (IsNodeOf order audit.known) nodes
  pub tasks_are : All (IsTaskOf next answers (begin audit.seat.setup.program) order) tasks
  pub carried : (x y : ℕ) (sender receiver : Part)
      → Has (x, sender) (known_together audit.seat nodes tasks)
      → Has (y, receiver) (known_together audit.seat nodes tasks) → IsGotInOrder x y sender receiver
