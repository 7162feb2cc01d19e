use Rattle.std.proofs.Common.{◌≡◌, List, ℕ, true, false, ap, subst, ◌∙◌}
use Rattle.std.specs.Prelude.{slice_get, Result, Ok}
use Rattle.rp_base.specs.declared.fault.Fault.{Fault}
use Rattle.rp_base.specs.declared.fault.Fault.TheVariants.{OutOfMemory}
use Rattle.rp_codec.specs.Decoding.{IsLongText}
use Rattle.rp_codec.specs.Reading.{all_of}
use Rattle.rp_codec.specs.Text.{text_of}
use Rattle.rp_model.specs.Effect.{NodeInput}
use Rattle.rp_model.specs.Parts.{Turn}
use Rattle.rp_rules.specs.Inputs.{Refuses, packet_given, plan_if_given}
use Rattle.rp_replica.specs.Inputs.{replica_effect, effect_if_given}
use Rattle.rp_replica.specs.State.{ReplicaState, server_of}
use Rattle.rp_outbox.proofs.Joined.{text_found_is}
use Rattle.rp_replica.proofs.Certain.{plan_takes_none, short_text}
use Rattle.rp_replica.proofs.Planned.{planned, refuses_turn}
use Rattle.rp_replica.proofs.Planning.{committed, refused}
use Rattle.rp_replica.proofs.replica.Replica.deliver_other.Goals as goal

pub returns-clause-answer : goal.returns-clause-answer
returns-clause-answer g c = λ message at.
    let m = g.M.Machine in
    let h = c.args.self.now in
    let text : c.unwrap.result.now ≡ text_of message = text_found_is c.text.result c.unwrap.result (slice_get c.args.out.now.sent c.args.place) message c.unwrap.ensures c.text.ensures.text at in
    let given = ap (λ (l : List ℕ). packet_given (all_of l)) text ∙ c.texts_are_packets.ensures message (c.text.ensures.right message at) in
    let made = planned m.next m.answers (server_of h) (packet_given (all_of c.unwrap.result.now)) c.on_text.new.plan
    (subst (λ (k : ReplicaState g.row.M.Denot). Ok c.on_text.new.plan ≡ plan_if_given m.next m.answers (server_of k) (packet_given (all_of c.unwrap.result.now))) c.self.view_is c.in_ok-on_text.ensures.ok) in
    committed m.next m.answers h (replica_effect m.next m.answers h (NodeInput.Receive message)) c.on_text.new.plan c.commit.new.self c.args.out.now.sent c.commit.new.out.sent c.dropped.result
    (made ∙ ap (effect_if_given m.next m.answers h) given) c.requires.working c.in_ok-commit.ensures.ok c.dropped.ensures

pub returns-in_err-commit-clause-answer : goal.returns-in_err-commit-clause-answer
returns-in_err-commit-clause-answer g c = λ message at.
    let m = g.M.Machine in
    let h = c.args.self.now in
    let text : c.unwrap.result.now ≡ text_of message = text_found_is c.text.result c.unwrap.result (slice_get c.args.out.now.sent c.args.place) message c.unwrap.ensures c.text.ensures.text at in
    let given = ap (λ (l : List ℕ). packet_given (all_of l)) text ∙ c.texts_are_packets.ensures message (c.text.ensures.right message at) in
    let made = planned m.next m.answers (server_of h) (packet_given (all_of c.unwrap.result.now)) c.on_text.new.plan
    (subst (λ (k : ReplicaState g.row.M.Denot). Ok c.on_text.new.plan ≡ plan_if_given m.next m.answers (server_of k) (packet_given (all_of c.unwrap.result.now))) c.self.view_is c.in_ok-on_text.ensures.ok) in
    refused m.next m.answers h (replica_effect m.next m.answers h (NodeInput.Receive message)) c.on_text.new.plan c.commit.new.self c.args.out.now.sent c.commit.new.out.sent c.from_residual-in_err-commit.result c.in_err-commit.field-0.0
    c.from_residual-in_err-commit.ensures.1 (made ∙ ap (effect_if_given m.next m.answers h) given) c.in_err-commit.ensures.err c.in_err-commit.ensures.unsent

pub returns-in_err-commit-clause-certain : goal.returns-in_err-commit-clause-certain
returns-in_err-commit-clause-certain g c = λ message at short turn is free working.
    let m = g.M.Machine in
    let h = c.args.self.now in
    let text : c.unwrap.result.now ≡ text_of message = text_found_is c.text.result c.unwrap.result (slice_get c.args.out.now.sent c.args.place) message c.unwrap.ensures c.text.ensures.text at in
    let given = ap (λ (l : List ℕ). packet_given (all_of l)) text ∙ c.texts_are_packets.ensures message (c.text.ensures.right message at) in
    let made = planned m.next m.answers (server_of h) (packet_given (all_of c.unwrap.result.now)) c.on_text.new.plan
    (subst (λ (k : ReplicaState g.row.M.Denot). Ok c.on_text.new.plan ≡ plan_if_given m.next m.answers (server_of k) (packet_given (all_of c.unwrap.result.now))) c.self.view_is c.in_ok-on_text.ensures.ok) in
    let never : false ≡ true = c.in_err-commit.ensures.certain (plan_takes_none m.next m.answers h (replica_effect m.next m.answers h (NodeInput.Receive message)) c.on_text.new.plan turn (made ∙ ap (effect_if_given m.next m.answers h) given) is free) in
    cc

pub returns-in_err-on_text-clause-certain : goal.returns-in_err-on_text-clause-certain
returns-in_err-on_text-clause-certain g c = λ message at short turn is free working.
    let m = g.M.Machine in
    let h = c.args.self.now in
    let bytes = c.unwrap.result.now in
    let packet = c.text.ensures.right message at in
    let text : bytes ≡ text_of message = text_found_is c.text.result c.unwrap.result (slice_get c.args.out.now.sent c.args.place) message c.unwrap.ensures c.text.ensures.text at in
    let given = ap (λ (l : List ℕ). packet_given (all_of l)) text ∙ c.texts_are_packets.ensures message packet in
    let fault = c.in_err-on_text.field-0.0 in
    let err = refuses_turn m.next m.answers (server_of h) (packet_given (all_of bytes)) (IsLongText bytes) fault
    (subst (λ (k : ReplicaState g.row.M.Denot). Refuses (IsLongText bytes) (plan_if_given m.next m.answers (server_of k) (packet_given (all_of bytes))) fault) c.self.view_is c.in_err-on_text.ensures.err) in
    let why : (fault ≡ OutOfMemory) × IsLongText bytes = subst (λ (e : Result Turn Fault). Refuses (IsLongText bytes) e fault) (ap (effect_if_given m.next m.answers h) given ∙ is) err in
    absurd (short_text message bytes text packet short why.1)
