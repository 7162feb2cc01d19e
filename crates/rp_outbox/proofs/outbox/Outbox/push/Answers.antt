use Rattle.std.proofs.Common.{◌≡◌, ◌≤◌, ◌++◌, ◌∷◌, [], List, ℕ, length, take, refl, ap, ◌∙◌, arith}
use Rattle.std.proofs.lemmas.List.{take_all}
use Rattle.rp_model.specs.rp_codec.specs.Text.{text_of}
use Rattle.rp_outbox.specs.Packets.{Sending}
use Rattle.rp_outbox.proofs.Joined.{run_more, sent_more, end_of}
use Rattle.rp_outbox.proofs.outbox.Outbox.push.Goals as goal
use Rattle.rp_outbox.proofs.outbox.Outbox.push.Goals.{After-push_reserved}

-- all bytes are used
joined : (c : After-push_reserved) → take c.len-end.result c.encode_onto.new.out.items ≡ take c.self.inside.used c.self.inside.bytes.items ++ text_of c.args.packet.now
joined c =
    take_all c.len-end.result c.encode_onto.new.out.items (omega (arith, c.len-end.ensures, c.encode_onto.new.out.ok.0)) ∙ c.in_ok-encode_onto.ensures.ok
    ∙ ap (λ (l : List ℕ). l ++ text_of c.args.packet.now) c.truncate.ensures.items

ended : (c : After-push_reserved) → c.push_reserved.new.self.items ≡ c.self.inside.ends.items ++ c.len-end.result ∷ []
ended c = c.push_reserved.ensures.items ∙ ap (λ (l : List ℕ). l ++ c.len-end.result ∷ []) c.reserve.ensures.items

pub invariant_of-self-2 : goal.invariant_of-self-2
invariant_of-self-2 c =
    let within : c.len-end.result ≤ length c.encode_onto.new.out.items = omega (arith, c.len-end.ensures, c.encode_onto.new.out.ok.0) in
    (within, run_more _ _ c.self.invariant.1 (text_of c.args.packet.now) c.args.packet.now (c.body-body.ensures.packet, refl) _ _ (joined c) c.len-end.result (end_of _ _ within) (ended c))

pub returns-clause-ok : goal.returns-clause-ok
returns-clause-ok c =
    let within : c.len-end.result ≤ length c.encode_onto.new.out.items = omega (arith, c.len-end.ensures, c.encode_onto.new.out.ok.0) in
    sent_more _ _ c.self.invariant.1 (text_of c.args.packet.now) c.args.packet.now (c.body-body.ensures.packet, refl) _ _ (joined c) c.len-end.result (end_of _ _ within) (ended c)
    ∙ ap (λ (s : Sending). s.sent ++ c.args.packet.now ∷ []) c.self.view_is
