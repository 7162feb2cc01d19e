use Rattle.std.proofs.Common.{◌++◌, ◌∷◌, [], ap, ◌∙◌}
use Rattle.rp_outbox.specs.Packets.{Sending}
use Rattle.rp_outbox.proofs.Joined.{run_more, sent_more, end_of}
use Rattle.rp_outbox.proofs.outbox.Outbox.put_text.Goals as goal

pub invariant_of-self : goal.invariant_of-self
invariant_of-self c =
    (c.write_text-end.ensures.within, run_more _ _ c.self.invariant.1 c.args.text.now c.requires.packet.0 c.requires.packet.1 _ _ c.write_text-end.ensures.written c.write_text-end.result (end_of _ _ c.write_text-end.ensures.within) c.push_reserved.ensures.items)

pub returns-clause-sent : goal.returns-clause-sent
returns-clause-sent c = λ m is.
    sent_more _ _ c.self.invariant.1 c.args.text.now m is _ _ c.write_text-end.ensures.written c.write_text-end.result (end_of _ _ c.write_text-end.ensures.within) c.push_reserved.ensures.items
    ∙ ap (λ (s : Sending). s.sent ++ m ∷ []) c.self.view_is
