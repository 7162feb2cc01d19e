use Rattle.std.proofs.Common.{arith}
use Rattle.rp_codec.proofs.Steps.{IsBytes}
use Rattle.rp_codec.proofs.UsualLaws.{head_decoded, accept_read}
use Rattle.rp_codec.proofs.usual_texts.usual_accept.Goals as goal

pub returns : goal.returns
returns c =
    let bytes : IsBytes c.args.bytes.now = λ i. omega (arith, c.type_inv.bytes i) in
    head_decoded c.args.bytes.now _ _ _ _ _ bytes c.in_ok-header.ensures.1 (accept_read _ _ _ c.in_ok-header.ensures.2)
