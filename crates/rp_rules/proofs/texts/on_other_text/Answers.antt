use Rattle.std.proofs.Common.{subst}
use Rattle.rp_model.specs.rp_codec.specs.Decoding.{IsDecoded}
use Rattle.rp_rules.proofs.PacketMemory.{text_no_memory, rule_no_memory}
use Rattle.rp_rules.proofs.texts.on_other_text.Goals as goal

pub returns-in_default-clause-err : goal.returns-in_default-clause-err
returns-in_default-clause-err g c = text_no_memory g.M.Machine.next g.M.Machine.answers c.args.server.now c.args.bytes.now c.in_default.ensures.memory

pub returns-in-Ok-read-clause-err : goal.returns-in-Ok-read-clause-err
returns-in-Ok-read-clause-err g c =
    let decoded = subst (IsDecoded c.args.bytes.now) c.in-Ok-read.is c.in-Ok.ensures.answer in
    rule_no_memory g.M.Machine.next g.M.Machine.answers c.args.server.now c.args.bytes.now c.in-Ok-read.packet decoded c.on_packet.result c.on_packet.ensures.memory
