use Rattle.std.proofs.Common.{sym, arith}
use Rattle.rp_codec.proofs.Steps.{IsBytes}
use Rattle.rp_codec.proofs.UsualLaws.{head_decoded, promise_read}
use Rattle.rp_codec.proofs.usual_texts.usual_promise.Goals as goal

pub returns : goal.returns
returns c =
    let bytes : IsBytes c.args.bytes.now = λ i. omega (arith, c.type_inv.bytes i) in
    head_decoded c.args.bytes.now _ _ _ _ _ bytes c.in_ok-head.ensures (promise_read _ _ _ _ _ _ c.in_ok-position.ensures (rw (sym c.in-Ok-None.field-0-is) c.in-Ok-None.ensures) c.in_ok-end.ensures)
