-- What the last look, of all seats as one, says of the audit, of nodes and of tasks.
use Rattle.std.proofs.Common.{◌≡◌, ◌≤◌, ℕ, zero, suc, ◌+◌, All, Some, List, [], ◌∷◌, ◌++◌, length, map, slice_get, inl, inr, refl, sym, ap, subst, ◌∙◌, arith, append_assoc, append-nil}
use Rattle.rp_base.specs.Records.{applied_of}
use Rattle.rp_base.specs.Sets.{Has}
use Rattle.rp_base.proofs.Members.{has_left, has_right, has_mapped}
use Rattle.rp_base.specs.declared.action.Action.{Action}
use Rattle.rp_base.specs.declared.reply.Answer.{Answer}
use Rattle.rp_codec.specs.Message.{Message}
use Rattle.rp_model.specs.rp_machine.specs.Places.{IsPlace}
use Rattle.rp_model.specs.Effect.{Setting}
use Rattle.rp_model.specs.Facts.{IsOrder}
use Rattle.rp_model.specs.Parts.{NodePart}
use Rattle.rp_agreement.specs.Answered.{calls_so_far, named}
use Rattle.rp_agreement.specs.Computed.{order_of}
use Rattle.rp_agreement.specs.Order.{IsPrefix}
use Rattle.rp_agreement.specs.Sound.{IsSound}
use Rattle.rp_board.specs.Looks.{IsWorldOf}
use Rattle.rp_board.specs.OrderLaws.{OrderLaws}
use Rattle.rp_board.specs.Parts.{Part, View, node_of, task_of}
use Rattle.rp_board.specs.Plays.{Sight, alone}
use Rattle.rp_board.specs.Rule.{IsGotInOrder, node_among, all_sent}
use Rattle.rp_board.specs.Seats.{SeatState, setting_at}
use Rattle.rp_board.proofs.Worlds.{is_sent}
use Rattle.rp_boxes.specs.Audits.{Audited, ReportSays, AreAllReported, known_of, report}
use Rattle.rp_boxes.specs.OneOrder.{IsWorldOrder}
use Rattle.rp_boxes.specs.Together.{AreTogether, IsNodeOf, IsTaskOf, known_together, of_node, of_task}
use Rattle.rp_boxes.proofs.Auditing.{says_among}
use Rattle.rp_boxes.proofs.AuditOrder.{ReportsFollow, known_begins}
use Rattle.rp_boxes.proofs.TaskOrder.{of_order}
use Rattle.rp_boxes.proofs.WorldOrder.{world_order}

-- ---- places are taken in, one after the other

pub one_taken : {A : Type 0} (f : A → ℕ × Part) (before after whole : View) (x : A) (rest rest' : List A) (place : Sight) → after ≡ before ++ place.0 → place ≡ alone (f x).0 (f x).1
    → rest ≡ x ∷ rest' → before ++ map f rest ≡ whole → after ++ map f rest' ≡ whole
one_taken f before after whole x rest rest' place takes is steps knows =
    ap (λ (v : View). v ++ map f rest') (takes ∙ ap (λ (p : Sight). before ++ p.0) is)
    ∙ append_assoc before (f x ∷ []) (map f rest')
    ∙ ap (λ (l : List _). before ++ map f l) (sym steps) ∙ knows

pub all_taken : {A : Type 0} (f : A → ℕ × Part) (me first : Sight) (whole : View) (rest : List A) → length rest ≡ 0 → me.0 ++ map f rest ≡ whole → me.1 ≡ first.1 → me ≡ (whole, first.1)
all_taken f me first whole [] none knows out = let e : me.0 ≡ whole = sym (append-nil me.0) ∙ knows in λ i. (e i, out i)
all_taken f me first whole (x ∷ rest) none knows out = absurd (omega (arith, none))

-- what is so of each member is so at each place
all_members : {A : Type 0} (Q : A → Type 0) (xs : List A) → ((x : A) → Has x xs → Q x) → All Q xs
all_members Q [] each k d within = absurd (omega (arith, within))
all_members Q (x ∷ xs) each zero d within = each x (inl refl)
all_members Q (x ∷ xs) each (suc k) d within = all_members Q xs (λ y has. each y (inr has)) k d (omega (arith, within))

-- ---- the world

-- the law of what nodes have applied
abbrev pub AppliedBegin : Type 0
AppliedBegin = (nodes : ℕ) (node : ℕ → NodePart) (sent : List Message) → IsSound nodes node sent → (order : List Action) → IsOrder nodes sent order
    → (x : ℕ) → IsPrefix (applied_of (node x).records) order

module _ {S P : Type 0} (next : S → Action → S) (answers : S → Action → List Answer) (begin : P → S) (audit : Audited P) (nodes tasks : List (SeatState P)) where
  abbrev s : Setting S
  s = setting_at next answers begin audit.seat

  abbrev view : View
  view = known_together audit.seat nodes tasks

  node_here : (seat : SeatState P) → Has seat nodes → Has (seat.setup.number, seat.part) view
  node_here seat has =
      has_left (seat.setup.number, seat.part) ((0, audit.seat.part) ∷ map of_node nodes) (map of_task tasks) (inr (has_mapped of_node seat nodes has))

  task_here : (seat : SeatState P) → Has seat tasks → Has (7 + seat.setup.number, seat.part) view
  task_here seat has =
      has_right (7 + seat.setup.number, seat.part) ((0, audit.seat.part) ∷ map of_node nodes) (map of_task tasks) (has_mapped of_task seat tasks has)

  -- a call of a task of the world that takes effect is one that its seat made
  pub made_at : (order : List Action) → IsWorldOrder s view order → (seat : SeatState P) → Has seat tasks → (n place : ℕ)
      → IsPlace next answers (begin audit.seat.setup.program) order (named seat.setup.number n) place → n ≤ calls_so_far (task_of seat.part.role)
  made_at order of_world seat has n place at =
      subst (λ (p : Part). n ≤ calls_so_far (task_of p.role)) (of_world.world.knows (7 + seat.setup.number) seat.part (task_here seat has)).0 (of_world.made seat.setup.number n place at).2

  module _ (parts : ℕ → Part) (world : IsWorldOf s view parts) (laws : OrderLaws s) (follow : ReportsFollow) where
    abbrev order : List Action
    order = order_of s.config.nodes (all_sent parts 16)

    -- what is known of a node is what it has reported
    has_reported : AreAllReported audit.seat.part audit.known → (seat : SeatState P) → Has seat nodes → (before : ℕ) (action : Action)
        → slice_get (known_of audit.known seat.setup.number) before ≡ Some action → ReportSays seat.part.sent seat.setup.number before action
    has_reported are seat has before action is =
        let stated = are.stated seat.setup.number before action is in
        let packet = report seat.setup.number stated.first stated.applied stated.actions in
        let got : Has packet (parts 0).got = subst (λ (p : Part). Has packet p.got) (sym (world.knows 0 audit.seat.part (inl refl)).0) stated.among in
        let by = is_sent parts 16 packet (world.is.gets 0 (omega arith) packet got).1 in
        let from : seat.setup.number ≡ by.0 = world.is.sends by.0 by.1 packet by.2 in
        let sent : Has packet (parts seat.setup.number).sent = subst (λ (k : ℕ). Has packet (parts k).sent) (sym from) by.2 in
        let own = (world.knows seat.setup.number seat.part (node_here seat has)).0 in
        says_among stated (subst (λ (p : Part). Has packet p.sent) own sent)

    pub together : AppliedBegin → AreAllReported audit.seat.part audit.known → AreTogether next answers begin audit nodes tasks
    together applied are = record {
      order = order;
      of_world = world_order s view parts world laws;
      known = known_begins s view parts world laws.exists follow audit.seat.part (inl refl) audit.known are;
      nodes_are = all_members (IsNodeOf order audit.known) nodes (λ seat has. record {
        applied = subst (λ (p : Part). IsPrefix (applied_of (node_of p.role).records) order) (world.knows seat.setup.number seat.part (node_here seat has)).0
            (applied s.config.nodes (node_among parts) (all_sent parts 16) world.is.good.kept.sound order (laws.exists s.config.nodes (all_sent parts 16)) seat.setup.number);
        reported = has_reported are seat has;
      });
      tasks_are = all_members (IsTaskOf next answers (begin audit.seat.setup.program) order) tasks (λ seat has. of_order s view parts world seat.setup.number seat.part (task_here seat has) laws);
      carried = λ x y sender receiver there here.
          let from = world.knows x sender there in
          let to = world.knows y receiver here in
          subst (λ (z : Part × Part). IsGotInOrder x y z.0 z.1) (λ i. (from.0 i, to.0 i)) (world.carries x y from.1 to.1);
    }
