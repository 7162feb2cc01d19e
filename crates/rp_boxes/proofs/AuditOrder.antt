-- What the audit learns of the order from a world.
use Rattle.std.proofs.Common.{◌≡◌, ℕ, ◌+◌, ◌-◌, Option, Some, None, Vec, List, [], ◌∷◌, take, drop, slice_get, inl, refl, sym, subst, arith}
use Rattle.std.specs.Prelude.{IfSome, IfNone}
use Rattle.std.specs.declared.alloc.Global.{Global}
use Rattle.rp_base.specs.Sets.{Has}
use Rattle.rp_base.specs.declared.action.Action.{Action}
use Rattle.rp_codec.specs.Message.{Message, report_len}
use Rattle.rp_codec.specs.declared.packet.Body.TheVariants.{Report}
use Rattle.rp_codec.specs.declared.packet.Party.{Party}
use Rattle.rp_codec.specs.declared.packet.Party.TheVariants.{Audit}
use Rattle.rp_model.specs.Effect.{Setting}
use Rattle.rp_model.specs.Facts.{IsOrder}
use Rattle.rp_model.specs.Parts.{NodePart}
use Rattle.rp_base.specs.declared.reply.Answer.{Answer}
use Rattle.rp_agreement.specs.Computed.{order_of}
use Rattle.rp_agreement.specs.Order.{IsPrefix}
use Rattle.rp_agreement.specs.Sound.{IsReported, IsSound}
use Rattle.rp_agreement.specs.Asked.{Says}
use Rattle.rp_board.specs.Looks.{HasWorld, IsWorldOf, WasSent}
use Rattle.rp_board.specs.OrderLaws.{OrderLaws}
use Rattle.rp_board.specs.Parts.{Part, View}
use Rattle.rp_board.specs.Rule.{node_among, all_sent}
use Rattle.rp_board.specs.Seats.{SeatState, setting_at}
use Rattle.rp_boxes.specs.Audits.{Audited, ReportSays, AreAllReported, known_of, report}
use Rattle.rp_boxes.specs.OneOrder.{ReportOneOrder, AreOfOneOrder}
use Rattle.rp_boxes.proofs.Listed.{at_taken, at_dropped, begins_by}
use Rattle.rp_boxes.proofs.WorldOrder.{world_order}

-- the laws of the order and of reports
abbrev pub OrderExists : Type 0
OrderExists = (nodes : ℕ) (sent : List Message) → IsOrder nodes sent (order_of nodes sent)

abbrev pub ReportsFollow : Type 0
ReportsFollow = (nodes : ℕ) (node : ℕ → NodePart) (sent : List Message) → IsSound nodes node sent → (order : List Action) → IsOrder nodes sent order
    → (x first applied : ℕ) (actions : List Action) → Says sent x (Report first applied actions) → IsReported order first applied actions

-- each known list is a prefix of the list of what was reported
begin_one : (part : Part) (known : List (List Action)) → AreAllReported part known → (order : List Action)
    → ((node before : ℕ) (action : Action) → ReportSays part.got node before action → slice_get order before ≡ Some action) → (node : ℕ) → IsPrefix (known_of known node) order
begin_one part known are order describes node = begins_by (known_of known node) order (λ k action is. describes node k action (are.stated node k action is))

module _ {S : Type 0} (s : Setting S) (view : View) (parts : ℕ → Part) (world : IsWorldOf s view parts) where
  abbrev pub order : List Action
  order = order_of s.config.nodes (all_sent parts 16)

  -- what was reported to the audit is in the order
  stated_at : OrderExists → ReportsFollow → (part : Part) → Has (0, part) view → (node k : ℕ) (action : Action) → ReportSays part.got node k action → slice_get order k ≡ Some action
  stated_at exists follow part here node k action stated =
      let packet = report node stated.first stated.applied stated.actions in
      let got : Has packet (parts 0).got = subst (λ (p : Part). Has packet p.got) (sym (world.knows 0 part here).0) stated.among in
      let sent = (world.is.gets 0 (omega arith) packet got).1 in
      let reported = follow s.config.nodes (node_among parts) (all_sent parts 16) world.is.good.kept.sound order (exists s.config.nodes (all_sent parts 16))
      node stated.first stated.applied stated.actions (Audit, sent) in
      let cut = drop (stated.first - 1) (take stated.applied order) in
      let among : slice_get (take (report_len stated.first stated.applied) cut) stated.at ≡ Some action =
      subst (λ (list : List Action). slice_get list stated.at ≡ Some action) reported.1 stated.describes in
      let following : slice_get cut stated.at ≡ Some action = at_taken (report_len stated.first stated.applied) cut stated.at action among in
      let within : slice_get (take stated.applied order) (stated.first - 1 + stated.at) ≡ Some action = at_dropped (stated.first - 1) (take stated.applied order) stated.at action following in
      subst (λ (place : ℕ). slice_get order place ≡ Some action) (sym stated.place) (at_taken stated.applied order (stated.first - 1 + stated.at) action within)

  -- each known list begins the order
  pub known_begins : OrderExists → ReportsFollow → (part : Part) → Has (0, part) view → (known : List (List Action)) → AreAllReported part known
      → (node : ℕ) → IsPrefix (known_of known node) order
  known_begins exists follow part here known are = begin_one part known are order (stated_at exists follow part here)

module _ {S P : Type 0} (next : S → Action → S) (answers : S → Action → List Answer) (begin : P → S) where
  pub of_one_order : (audit : Audited P) → AreAllReported audit.seat.part audit.known → ReportOneOrder next answers begin audit.seat → AreOfOneOrder next answers begin audit
  of_one_order audit are one = record { order = one.order; of_world = one.of_world; begins = begin_one audit.seat.part audit.known are one.order one.describes }

  -- the order that a world of the audit shows
  pub report_order : ReportsFollow → (seat : SeatState P) → OrderLaws (setting_at next answers begin seat) → HasWorld (setting_at next answers begin seat) ((0, seat.part) ∷ []) → ReportOneOrder next answers begin seat
  report_order follow seat laws seen =
      let s = setting_at next answers begin seat in
      let view = (0, seat.part) ∷ [] in
      record {
        order = order s view seen.0 seen.1;
        of_world = world_order s view seen.0 seen.1 laws;
        describes = stated_at s view seen.0 seen.1 laws.exists follow seat.part (inl refl);
      }

  -- once the audit got a packet, or none
  pub order_still : ReportsFollow → (from : Party) (old new : SeatState P) → OrderLaws (setting_at next answers begin new) → (found : Option (Vec ℕ Global))
      → IfSome found (λ text. WasSent next answers begin from Audit text.items new) → IfNone found (new ≡ old) → ReportOneOrder next answers begin old → ReportOneOrder next answers begin new
  order_still follow from old new laws None some none one = subst (ReportOneOrder next answers begin) (sym none) one
  order_still follow from old new laws (Some text) some none one = report_order follow new laws (some.parts, some.world)
