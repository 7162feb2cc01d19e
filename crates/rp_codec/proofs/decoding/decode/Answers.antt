use Rattle.std.proofs.Common.{sym, rules, arith}
use Rattle.rp_codec.specs.Found.{with_body}
use Rattle.rp_codec.specs.Decoding.{IsLongText}
use Rattle.rp_codec.proofs.Steps.{IsBytes}
use Rattle.rp_codec.proofs.Decoded.{decoded, decoded_packet, decoded_rules, long_text}
use Rattle.rp_codec.proofs.decoding.decode.Goals as goal

pub listed-requires : goal.listed-requires
listed-requires c =
    let (body, after, is_content, read) = c.in-Ok.ensures in
    let bytes : IsBytes c.args.bytes.now = λ i. omega (arith, c.type_inv.bytes i) in
    (body, after, is_content, decoded_rules c.args.bytes.now (with_body c.in-Ok.found body) bytes read)

pub returns-in_err-packet-in-Ok : goal.returns-in_err-packet-in-Ok
returns-in_err-packet-in-Ok c =
    let (body, after, is_content, read) = c.in-Ok.ensures in
    let bytes : IsBytes c.args.bytes.now = λ i. omega (arith, c.type_inv.bytes i) in
    let text : IsLongText c.args.bytes.now = long_text c.args.bytes.now c.in-Ok.found body after bytes c.in_err-packet-in-Ok.ensures.memory is_content read in
    search rules

pub returns-in_ok-packet-in-Ok : goal.returns-in_ok-packet-in-Ok
returns-in_ok-packet-in-Ok c =
    let (body, after, is_content, read) = c.in-Ok.ensures in
    let bytes : IsBytes c.args.bytes.now = λ i. omega (arith, c.type_inv.bytes i) in
    record {
      answer = decoded_packet c.args.bytes.now c.in_ok-packet-in-Ok.packet (with_body c.in-Ok.found body) bytes (c.in_ok-packet-in-Ok.ensures.packet body after is_content) read;
      memory = tt;
    }

pub returns-in-Err : goal.returns-in-Err
returns-in-Err c =
    let bytes : IsBytes c.args.bytes.now = λ i. omega (arith, c.type_inv.bytes i) in
    record { answer = decoded c.args.bytes.now _ bytes (sym c.in-Err.ensures); memory = tt }
