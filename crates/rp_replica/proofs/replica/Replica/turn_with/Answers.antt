use Rattle.std.proofs.Common.{◌≡◌, length, refl, ap, arith}
use Rattle.rp_replica.specs.Inputs.{input_effect}
use Rattle.rp_outbox.proofs.Joined.{length_ends}
use Rattle.rp_replica.proofs.Sending.{sent_onto}
use Rattle.rp_replica.proofs.replica.Replica.turn_with.Goals as goal

pub returns-clause-answer : goal.returns-clause-answer
returns-clause-answer g c =
    let m = g.M.Machine in
    let h = c.args.self.now in
    let later = c.turn_into-answer.new.out.sent in
    let count : c.len-packets.result ≡ length later = omega (arith, c.len-packets.ensures, c.into_parts-bytes.result.1.ok.0, ap length c.into_parts-bytes.ensures.ends, length_ends 0 later) in
    sent_onto (input_effect m.next m.answers h c.args.input.now) h c.turn_into-answer.new.self c.over-out.result.sent later c.in_ok-answer.field-0 _
    c.over-out.ensures c.into_parts-bytes.ensures.bytes count c.in_ok-answer.ensures.answer refl
