-- A first vote is written and sent.
use Rattle.std.proofs.Common.{◌≡◌, List, Some, None, refl, sym, subst}
use Rattle.std.specs.Prelude.{slice_get, Result, OnOk, OnErr, IfErr}
use Rattle.rp_rules.specs.rp_acceptor.specs.First.{IsFirstVote}
use Rattle.rp_base.specs.declared.fault.WriteFault.{WriteFault}
use Rattle.rp_base.specs.declared.record.Rec.TheVariants.{Voted}
use Rattle.rp_base.specs.WriteFaults.{fault_of}
use Rattle.rp_codec.specs.Decoding.{IsLongBody}
use Rattle.rp_codec.specs.Message.{Message}
use Rattle.rp_codec.specs.declared.usual_texts.Header.{Header}
use Rattle.rp_model.specs.Effect.{NodeInput}
use Rattle.rp_model.specs.Plans.{written_by}
use Rattle.rp_model.specs.declared.effect.Dropped.TheVariants.{No}
use Rattle.rp_model.specs.declared.plan.Plan.TheVariants as plans
use Rattle.rp_outbox.proofs.Joined.{text_found_is}
use Rattle.rp_rules.specs.Plans.{IsPlanOf, turn_of_plan}
use Rattle.rp_replica.specs.Committing.{Commits}
use Rattle.rp_replica.specs.Inputs.{replica_effect}
use Rattle.rp_replica.specs.State.{ReplicaState, server_of}
use Rattle.rp_replica.specs.Turning.{IsCertain, Stops}
use Rattle.rp_replica.proofs.Delivered.{HasPlan, vote_plan, carried_out, not_carried_out, takes_memory}
use Rattle.rp_replica.proofs.replica.Replica.deliver_accept.Goals as goal

pub returns-in_default-vote_first-clause-certain : goal.returns-in_default-vote_first-clause-certain
returns-in_default-vote_first-clause-certain g c =
    let m = g.M.Machine in
    let place = c.args.place in
    let other = c.deliver_other-in_default-vote_first in
    let none = c.in_default-vote_first.ensures.none in
    subst (λ (k : ReplicaState g.row.M.Denot). (p : Message) → slice_get c.args.out.now.sent place ≡ Some p → (¬ IsLongBody p.body) → IsCertain (replica_effect m.next m.answers k (NodeInput.Receive p)) k other.result) none.0
    (subst (λ (l : List Message). (p : Message) → slice_get l place ≡ Some p → (¬ IsLongBody p.body) → IsCertain (replica_effect m.next m.answers c.vote_first.new.self (NodeInput.Receive p)) c.vote_first.new.self other.result) none.1
    other.ensures.certain)

pub returns-clause-answer : goal.returns-clause-answer
returns-clause-answer g c =
    let m = g.M.Machine in
    let h = c.args.self.now in
    let server = c.self.inside.server in
    let sent = c.args.out.now.sent in
    let bytes = c.unwrap-text.result.now in
    let header = c.in-Some.header in
    let answer = c.header_to-answer.result in
    let plan = plans.Vote answer c.in-Some.action in
    let is_first : IsFirstVote server.records header.position header.ballot =
    subst (λ (p : Header). IsFirstVote server.records p.position p.ballot) c.header_to-answer.ensures
    (subst (λ (k : ReplicaState g.row.M.Denot). IsFirstVote k.records answer.position answer.ballot) (sym c.self.view_is) c.in-Some-vote_first.ensures.first) in
    let has : HasPlan m.next m.answers h sent c.args.place bytes plan = (
      λ message at. (text_found_is c.text.result c.unwrap-text.result (slice_get sent c.args.place) message c.unwrap-text.ensures c.text.ensures.text at, c.text.ensures.right message at),
      subst (λ (k : ReplicaState g.row.M.Denot). IsPlanOf m.next m.answers (server_of k) bytes plan) c.self.view_is
          (vote_plan m.next m.answers server bytes header answer c.in-Some.action (Voted header.position header.ballot c.in-Some.action) c.in-Some.ensures.plan (sym (is_first.cast c.in-Some.action)) c.header_to-answer.ensures),
    ) in
    carried_out m.next m.answers h sent c.args.place bytes plan has c.vote_first.new.self c.vote_first.new.out.sent No c.requires.working
    (subst (λ (done : Result (Unit {0}) WriteFault). OnOk done (Commits (turn_of_plan m.next m.answers (server_of h) plan) h c.vote_first.new.self sent c.vote_first.new.out.sent)) c.in_ok-done.was c.in-Some-vote_first.ensures.ok) refl

pub returns-in_err-done-clause-answer : goal.returns-in_err-done-clause-answer
returns-in_err-done-clause-answer g c =
    let m = g.M.Machine in
    let h = c.args.self.now in
    let server = c.self.inside.server in
    let sent = c.args.out.now.sent in
    let bytes = c.unwrap-text.result.now in
    let header = c.in-Some.header in
    let answer = c.header_to-answer.result in
    let plan = plans.Vote answer c.in-Some.action in
    let is_first : IsFirstVote server.records header.position header.ballot =
    subst (λ (p : Header). IsFirstVote server.records p.position p.ballot) c.header_to-answer.ensures
    (subst (λ (k : ReplicaState g.row.M.Denot). IsFirstVote k.records answer.position answer.ballot) (sym c.self.view_is) c.in-Some-vote_first.ensures.first) in
    let has : HasPlan m.next m.answers h sent c.args.place bytes plan = (
      λ message at. (text_found_is c.text.result c.unwrap-text.result (slice_get sent c.args.place) message c.unwrap-text.ensures c.text.ensures.text at, c.text.ensures.right message at),
      subst (λ (k : ReplicaState g.row.M.Denot). IsPlanOf m.next m.answers (server_of k) bytes plan) c.self.view_is
          (vote_plan m.next m.answers server bytes header answer c.in-Some.action (Voted header.position header.ballot c.in-Some.action) c.in-Some.ensures.plan (sym (is_first.cast c.in-Some.action)) c.header_to-answer.ensures),
    ) in
    not_carried_out m.next m.answers h sent c.args.place bytes plan has c.vote_first.new.self c.vote_first.new.out.sent c.from_residual.result c.in_err-done.field-0.0 c.from_residual.ensures.1
    (subst (λ (done : Result (Unit {0}) WriteFault). IfErr done (λ fault. Stops (written_by plan) h c.vote_first.new.self (fault_of fault))) c.in_err-done.was c.in-Some-vote_first.ensures.err)
    (subst (λ (done : Result (Unit {0}) WriteFault). OnErr done (c.vote_first.new.out.sent ≡ sent)) c.in_err-done.was c.in-Some-vote_first.ensures.unsent)

pub returns-in_err-done-clause-certain : goal.returns-in_err-done-clause-certain
returns-in_err-done-clause-certain g c =
    let m = g.M.Machine in
    let h = c.args.self.now in
    let server = c.self.inside.server in
    let sent = c.args.out.now.sent in
    let bytes = c.unwrap-text.result.now in
    let header = c.in-Some.header in
    let answer = c.header_to-answer.result in
    let plan = plans.Vote answer c.in-Some.action in
    let is_first : IsFirstVote server.records header.position header.ballot =
    subst (λ (p : Header). IsFirstVote server.records p.position p.ballot) c.header_to-answer.ensures
    (subst (λ (k : ReplicaState g.row.M.Denot). IsFirstVote k.records answer.position answer.ballot) (sym c.self.view_is) c.in-Some-vote_first.ensures.first) in
    let has : HasPlan m.next m.answers h sent c.args.place bytes plan = (
      λ message at. (text_found_is c.text.result c.unwrap-text.result (slice_get sent c.args.place) message c.unwrap-text.ensures c.text.ensures.text at, c.text.ensures.right message at),
      subst (λ (k : ReplicaState g.row.M.Denot). IsPlanOf m.next m.answers (server_of k) bytes plan) c.self.view_is
          (vote_plan m.next m.answers server bytes header answer c.in-Some.action (Voted header.position header.ballot c.in-Some.action) c.in-Some.ensures.plan (sym (is_first.cast c.in-Some.action)) c.header_to-answer.ensures),
    ) in
    λ message at short turn is free working.
    let writes = takes_memory m.next m.answers h sent c.args.place bytes plan has (λ none. let never = none.written in absurd cc) message at turn is in
    absurd (writes free)
