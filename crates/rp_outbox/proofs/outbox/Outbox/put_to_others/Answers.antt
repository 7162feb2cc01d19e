use Rattle.std.proofs.Common.{◌≡◌, ◌+◌, ◌*◌, ◌≤◌, ◌++◌, Bool, true, false, not, nat_eq, refl, sym, ap, subst, ◌∙◌, arith}
use Rattle.rp_model.specs.rp_base.specs.Number.{IsNode}
use Rattle.rp_model.specs.rp_codec.specs.declared.packet.Body.{Body}
use Rattle.rp_model.specs.Says.{says, says_to_others}
use Rattle.rp_outbox.specs.Packets.{IsTextOf, Sending}
use Rattle.rp_outbox.proofs.Queueing.{to_another, to_any_node, other_node_more, own_node_left}
use Rattle.rp_outbox.proofs.outbox.Outbox.put_to_others.Goals.{then-ne, else-ne}
use Rattle.rp_outbox.proofs.outbox.Outbox.put_to_others.Goals as goal

is_false : (b : Bool) → not b ≡ true → b ≡ false
is_false true e = absurd (cc)
is_false false e = refl

is_true : (b : Bool) → not b ≡ false → b ≡ true
is_true true e = refl
is_true false e = absurd (cc)

pub put_to-requires-clause-packet : goal.put_to-requires-clause-packet
put_to-requires-clause-packet c =
    let me = c.args.me in
    let body = c.requires.packet.0 in
    let is = c.requires.packet.1 in
    let place = c.loop-place.place in
    let node : IsNode (place + 1) = (omega arith, omega (arith, c.loop-place-test.true, c.requires.nodes)) in
    (says me body (place + 1), (to_any_node me (place + 1) body is.0 node, to_another me body c.args.text.now c.node_after-to.result place is.1 c.node_after-to.ensures))

pub loop-place-preserved : goal.loop-place-preserved
loop-place-preserved c =
    let me = c.args.me in
    let place = c.loop-place.place in
    let said = c.loop-place.self in
    let start = c.args.self.now in
    let to = c.node_after-to.result in
    let same : nat_eq to me ≡ nat_eq (place + 1) me = ap (λ k. nat_eq k me) c.node_after-to.ensures in
    let So : Sending → Type 0 = λ out. ((body : Body) → IsTextOf c.args.text.now (says me body me) → out.sent ≡ start.sent ++ says_to_others (place + 1) me body)
    × (start.room ≤ out.room + 40 * (place + 1)) in
    let node : IsNode (place + 1) = (omega arith, omega (arith, c.loop-place-test.true, c.requires.nodes)) in
    elim c.if-ne.branch [
      | then-ne w ↦
          let other : nat_eq (place + 1) me ≡ false = sym same ∙ is_false (nat_eq to me) (sym c.ne.ensures ∙ w.if-ne.true) in
          subst So (sym w.self-is) (
            λ body is. w.put_to.ensures.sent (says me body (place + 1)) (to_any_node me (place + 1) body is.0 node, to_another me body c.args.text.now to place is.1 c.node_after-to.ensures)
                ∙ other_node_more place me body start.sent said.sent (c.loop-place.invariant.0 body is) other,
            omega (arith, w.put_to.ensures.room, c.loop-place.invariant.1),
          )
      | else-ne w ↦
          let own : nat_eq (place + 1) me ≡ true = sym same ∙ is_true (nat_eq to me) (sym c.ne.ensures ∙ w.if-ne.false) in
          subst So (sym w.self-is) (λ body is. own_node_left place me body start.sent said.sent (c.loop-place.invariant.0 body is) own, omega (arith, c.loop-place.invariant.1))
    ]
