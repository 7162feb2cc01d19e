use Rattle.std.proofs.Common.{arith}
use Rattle.rp_codec.proofs.Steps.{IsBytes}
use Rattle.rp_codec.proofs.UsualLaws.{head_decoded, head_between, call_read}
use Rattle.rp_codec.proofs.usual_texts.usual_call.Goals as goal

pub returns : goal.returns
returns c =
    let bytes : IsBytes c.args.bytes.now = λ i. omega (arith, c.type_inv.bytes i) in
    let between = head_between c.args.bytes.now _ _ _ _ _ _ c.in_ok-from.ensures c.in_ok-task.ensures c.in_ok-node.ensures in
    head_decoded c.args.bytes.now _ _ _ _ _ bytes between (call_read _ _ _ _ c.in_ok-action.ensures c.in_ok-end.ensures)
