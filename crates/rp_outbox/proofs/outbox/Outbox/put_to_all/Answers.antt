use Rattle.std.proofs.Common.{◌+◌, ◌∙◌, arith}
use Rattle.rp_model.specs.rp_base.specs.Number.{IsNode}
use Rattle.rp_model.specs.Says.{says}
use Rattle.rp_outbox.proofs.Queueing.{to_another, to_any_node, one_node_more}
use Rattle.rp_outbox.proofs.outbox.Outbox.put_to_all.Goals as goal

pub put_to-requires-clause-packet : goal.put_to-requires-clause-packet
put_to-requires-clause-packet c =
    let me = c.requires.packet.0 in
    let body = c.requires.packet.1.0 in
    let is = c.requires.packet.1.1 in
    let place = c.loop-place.place in
    let node : IsNode (place + 1) = (omega arith, omega (arith, c.loop-place-test.true, c.requires.nodes)) in
    (says me body (place + 1), (to_any_node me (place + 1) body is.0 node, to_another me body c.args.text.now c.node_after.result place is.1 c.node_after.ensures))

pub loop-place-preserved : goal.loop-place-preserved
loop-place-preserved c =
    let place = c.loop-place.place in
    let node : IsNode (place + 1) = (omega arith, omega (arith, c.loop-place-test.true, c.requires.nodes)) in (
      λ me body is. c.put_to.ensures.sent (says me body (place + 1))
          (to_any_node me (place + 1) body is.0 node, to_another me body c.args.text.now c.node_after.result place is.1 c.node_after.ensures)
          ∙ one_node_more place me body c.args.self.now.sent c.loop-place.self.sent (c.loop-place.invariant.0 me body is),
      omega (arith, c.put_to.ensures.room, c.loop-place.invariant.1),
    )
