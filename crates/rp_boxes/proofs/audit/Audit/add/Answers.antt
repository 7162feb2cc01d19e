-- The bytes are the text of a report that the audit got, and of no other packet.
use Rattle.std.proofs.Common.{◌≡◌, List, sym, ap, subst, ◌∙◌}
use Rattle.rp_base.specs.Sets.{Has}
use Rattle.rp_base.specs.declared.action.Action.{Action}
use Rattle.rp_codec.specs.Message.{Message, IsPacket}
use Rattle.rp_codec.specs.Text.{text_of}
use Rattle.rp_codec.proofs.Decoded.{written_read, read_same}
use Rattle.rp_codec.specs.declared.packet.Body.TheVariants.{Report}
use Rattle.rp_codec.specs.declared.packet.Party.TheVariants.{Audit}
use Rattle.rp_boxes.specs.Audits.{Audited, report}
use Rattle.rp_boxes.specs.OneOrder.{AreOfOneOrder}
use Rattle.rp_boxes.proofs.AuditOrder.{of_one_order}
use Rattle.rp_boxes.proofs.Auditing.{lists}
use Rattle.rp_boxes.proofs.audit.Audit.add.Given as given
use Rattle.rp_boxes.proofs.audit.Audit.add.Goals as goal
use Rattle.rp_boxes.proofs.audit.Audit.add.Goals.{After-packets_are_right, After-as_slice}

-- the report that was got
module _ (g : given.Over) (c : After-packets_are_right g) where
  abbrev packet : Message
  packet = report c.requires.0 c.requires.1 c.requires.2 c.requires.3

  right : IsPacket packet
  right = (c.packets_are_right.ensures.got packet (subst (λ audit. Has packet audit.seat.part.got) (sym c.self.view_is) c.requires.4)).0

-- what is read is that report
stated : (g : given.Over) (c : After-as_slice g) → IsPacket (report c.requires.0 c.requires.1 c.requires.2 c.requires.3)
    → report c.in-Node.node c.in-Report.first c.in-Report.applied c.as_slice.result.now ≡ report c.requires.0 c.requires.1 c.requires.2 c.requires.3
stated g c right =
    let same = read_same _ _ c.in-Ok.packet _ c.in_ok-packet.ensures.answer c.in-Ok.is right c.requires.5 in
    let from = c.in-Node.ensures ∙ ap (λ (m : Message). m.from) same in
    let body = ap (λ (actions : List Action). Report c.in-Report.first c.in-Report.applied actions) c.as_slice.ensures
    ∙ (sym c.in-Report.is ∙ (c.body.ensures.value ∙ ap (λ (m : Message). m.body) same)) in
    λ i. record { from = from i; to = Audit; body = body i }

pub unreachable-requires : goal.unreachable-requires
unreachable-requires g c =
    let at = (goal.at.unreachable-requires g c).After-packets_are_right in
    c.in_default.not-Ok (packet g at) (written_read _ _ (packet g at) c.in_ok-packet.ensures.answer (right g at) c.requires.5)

pub join-requires : goal.join-requires
join-requires g c =
    let at = goal.at.join-requires g c in
    let is = right g at.After-packets_are_right in
    let same = sym (stated g at.After-as_slice is) in
    record { got = (c.in-Report.applied, subst (λ (m : Message). Has m c.args.self.now.seat.part.got) same c.requires.4, subst IsPacket same is) }

pub returns-clause-ok : goal.returns-clause-ok
returns-clause-ok g c =
    let at = goal.at.returns-clause-ok g c in
    let is = right g at.After-packets_are_right in
    let same = sym (stated g at.After-as_slice is) in
    record {
      node = c.in-Node.node;
      first = c.in-Report.first;
      applied = c.in-Report.applied;
      actions = c.as_slice.result.now;
      right = subst IsPacket same is;
      text = c.requires.5 ∙ ap text_of same;
      joined = c.in_ok-join.ensures.ok;
    }

pub returns-in_err-packet-clause-one : goal.returns-in_err-packet-clause-one
returns-in_err-packet-clause-one g c =
    let m = g.M.Machine in
    let audit : Audited g.row.M-Program.Denot = record { seat = c.self.inside.seat; known = lists c.self.inside.known } in
    subst (AreOfOneOrder m.next m.answers m.begin) c.self.view_is (of_one_order m.next m.answers m.begin audit c.self.invariant.0 c.self.invariant.1)
