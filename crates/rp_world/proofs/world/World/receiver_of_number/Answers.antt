use Rattle.rp_model.specs.World.{part_at}
use Rattle.rp_actors.proofs.Messages.{packet_found, to_whom}
use Rattle.rp_world.proofs.world.World.receiver_of_number.Goals as goal

pub receiver_of-requires : goal.receiver_of-requires
receiver_of-requires g c =
    let m = packet_found c.args.self.now.world.sent c.args.number c.in_ok-text.text.now c.requires.ranged.packets c.in_ok-text.ensures in
    (m.message, m.packet, m.reads)

pub returns : goal.returns
returns g c =
    let sent = c.args.self.now.world.sent in
    let m = packet_found sent c.args.number c.in_ok-text.text.now c.requires.ranged.packets c.in_ok-text.ensures in
    to_whom (part_at sent c.args.number) m.message c.receiver_of.result m.found (c.receiver_of.ensures m.message m.packet m.reads)
