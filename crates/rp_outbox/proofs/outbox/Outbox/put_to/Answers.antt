use Rattle.std.proofs.Common.{◌≡◌, ◌≤◌, ◌+◌, ◌++◌, ◌∷◌, [], List, ℕ, length, take, refl, ap, ◌∙◌, arith, slice_set}
use Rattle.std.proofs.lemmas.List.{length-set}
use Rattle.rp_outbox.specs.Packets.{Sending}
use Rattle.rp_outbox.proofs.Joined.{run_more, sent_more, sent_to, end_of}
use Rattle.rp_outbox.proofs.outbox.Outbox.put_to.Goals as goal
use Rattle.rp_outbox.proofs.outbox.Outbox.put_to.Goals.{After-push_reserved}

-- the bytes, with the text and its receiver
abbrev written : After-push_reserved → List ℕ
written c = slice_set c.write_text-end.new.bytes.items (c.self.inside.used + 3) c.get.result

within : (c : After-push_reserved) → c.write_text-end.result ≤ length (written c)
within c = omega (arith, c.write_text-end.ensures.within, length-set c.write_text-end.new.bytes.items (c.self.inside.used + 3) c.get.result)

joined : (c : After-push_reserved) → take c.write_text-end.result (written c) ≡ take c.self.inside.used c.self.inside.bytes.items ++ slice_set c.args.text.now 3 c.args.to
joined c = sent_to c.self.inside.bytes.items c.write_text-end.new.bytes.items c.args.text.now c.self.inside.used c.write_text-end.result _ c.args.to c.get.result c.self.invariant.0 c.write_text-end.ensures.written refl c.get.ensures.value

pub invariant_of-self : goal.invariant_of-self
invariant_of-self c =
    let at = (goal.at.invariant_of-self c).After-push_reserved in
    (within at, run_more _ _ c.self.invariant.1 _ c.requires.packet.0 c.requires.packet.1 _ _ (joined at) at.write_text-end.result (end_of _ _ (within at)) c.push_reserved.ensures.items)

pub returns-clause-sent : goal.returns-clause-sent
returns-clause-sent c = λ m is.
    let at = (goal.at.returns-clause-sent c).After-push_reserved in
    sent_more _ _ c.self.invariant.1 (slice_set c.args.text.now 3 c.args.to) m is _ _ (joined at) at.write_text-end.result (end_of _ _ (within at)) c.push_reserved.ensures.items
    ∙ ap (λ (s : Sending). s.sent ++ m ∷ []) c.self.view_is
