use Rattle.std.proofs.Common.{◌≡◌, Option, sym, subst, ◌∙◌}
use Rattle.std.specs.Prelude.{IfSome}
use Rattle.rp_codec.specs.Message.{Message, IsPacket}
use Rattle.rp_codec.specs.Text.{text_of}
use Rattle.rp_model.specs.World.{part_at}
use Rattle.rp_actors.proofs.Messages.{packet_found}
use Rattle.rp_world.proofs.cluster.Cluster.message.Goals as goal

pub returns-clause-text : goal.returns-clause-text
returns-clause-text g c =
    let m = packet_found c.self.inside.world.world.sent c.args.number c.in-Some.text.now c.self.invariant.ranged.packets c.in-Some.ensures in
    let copied = c.in_ok-from_slice.field-0.items in
    subst (λ v. IfSome (part_at v.world.sent c.args.number) (λ x. (copied ≡ text_of x) × IsPacket x)) c.self.view_is
    (subst (λ (o : Option Message). IfSome o (λ x. (copied ≡ text_of x) × IsPacket x)) (sym m.found) (c.in_ok-from_slice.ensures.items ∙ m.reads, m.packet))
