-- What was known stays reported: the audit got a packet, which is a report, or none.
use Rattle.std.proofs.Common.{◌≡◌, ℕ, Option, Some, None, Vec, List, sym, subst}
use Rattle.std.specs.Prelude.{IfSome, IfNone}
use Rattle.std.specs.declared.alloc.Global.{Global}
use Rattle.rp_base.specs.declared.action.Action.{Action}
use Rattle.rp_codec.specs.declared.packet.Party.{Party}
use Rattle.rp_codec.specs.declared.packet.Party.TheVariants.{Audit}
use Rattle.rp_board.specs.Seats.{SeatState, IsFetched}
use Rattle.rp_boxes.specs.Audits.{AreAllReported, IsGotReport}
use Rattle.rp_boxes.proofs.AuditOrder.{order_still}
use Rattle.rp_boxes.proofs.Auditing.{lists, stated_still}
use Rattle.rp_boxes.proofs.Reporting.{all_got, got_still}
use Rattle.rp_boxes.proofs.audit.Audit.fetch.Goals as goal

still : {P : Type 0} (from : Party) (known : List (List Action)) (old new : SeatState P) (found : Option (Vec ℕ Global)) → AreAllReported old.part known
    → IfSome found (λ text. IsFetched from Audit text.items old new) → IfNone found (new ≡ old) → AreAllReported new.part known
still {P} from known old new None are some none = subst (λ (seat_state : SeatState P). AreAllReported seat_state.part known) (sym none) are
still {P} from known old new (Some text) are some none = subst (λ (seat_state : SeatState P). AreAllReported seat_state.part known) (sym some.after) (stated_still old.part known some.packet are)

pub invariant_of-self : goal.invariant_of-self
invariant_of-self g c =
    let m = g.M.Machine in (
      still c.args.from (lists c.self.inside.known) c.self.inside.seat c.fetch.new.self c.fetch.result c.self.invariant.0 c.fetch.ensures.some c.fetch.ensures.none,
      order_still m.next m.answers m.begin c.reports_follow_the_order.ensures c.args.from c.self.inside.seat c.fetch.new.self (c.order_laws.ensures c.fetch.new.self.setup.config c.fetch.new.self.setup.program) c.fetch.result c.fetch.ensures.sent c.fetch.ensures.none c.self.invariant.1,
    )

pub returns-clause-report : goal.returns-clause-report
returns-clause-report g c = all_got c.args.from c.self.inside.seat c.fetch.new.self c.fetch.result c.fetch.ensures.some

pub returns-clause-got : goal.returns-clause-got
returns-clause-got g c = subst (λ audit. (text : List ℕ) → IsGotReport audit.seat.part text → IsGotReport (c.fetch.new.self).part text) c.self.view_is (got_still c.args.from c.self.inside.seat c.fetch.new.self c.fetch.result c.fetch.ensures.some c.fetch.ensures.none)
