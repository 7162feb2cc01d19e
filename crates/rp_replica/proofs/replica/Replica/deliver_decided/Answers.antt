-- A decision is learned, unless one is at its position.
use Rattle.std.proofs.Common.{false, true, refl, sym, subst, append-nil, ◌∙◌}
use Rattle.std.specs.Prelude.{slice_get}
use Rattle.rp_model.specs.declared.effect.Dropped.TheVariants.{No}
use Rattle.rp_model.specs.declared.plan.Plan.TheVariants as plans
use Rattle.rp_outbox.proofs.Joined.{text_found_is}
use Rattle.rp_rules.specs.Plans.{IsPlanOf}
use Rattle.rp_replica.specs.State.{ReplicaState, server_of}
use Rattle.rp_replica.proofs.Delivered.{HasPlan, decided_plan, carried_out, not_carried_out, takes_memory}
use Rattle.rp_replica.proofs.replica.Replica.deliver_decided.Goals as goal

pub returns-in_ok-learn_by_decision-clause-answer : goal.returns-in_ok-learn_by_decision-clause-answer
returns-in_ok-learn_by_decision-clause-answer g c =
    let m = g.M.Machine in
    let h = c.args.self.now in
    let server = c.self.inside.server in
    let sent = c.args.out.now.sent in
    let bytes = c.unwrap-text.result.now in
    let plan = plans.Follow c.in-Some.sent.from c.in-Some.sent.position c.in-Some.sent.action in
    let has : HasPlan m.next m.answers h sent c.args.place bytes plan = (
      λ message at. (text_found_is c.text.result c.unwrap-text.result (slice_get sent c.args.place) message c.unwrap-text.ensures c.text.ensures.text at, c.text.ensures.right message at),
      subst (λ (k : ReplicaState g.row.M.Denot). IsPlanOf m.next m.answers (server_of k) bytes plan) c.self.view_is
          (decided_plan m.next m.answers server bytes c.in-Some.sent.from c.in-Some.sent.position c.in-Some.sent.action false c.in-Some.ensures.plan (sym c.if-not-is_learned.true ∙ c.is_learned.ensures)),
    ) in
    carried_out m.next m.answers h sent c.args.place bytes plan has c.learn_by_decision.new.self c.learn_by_decision.new.out.sent No c.requires.working c.in_ok-learn_by_decision.ensures.ok refl

pub returns-in_err-learn_by_decision-clause-answer : goal.returns-in_err-learn_by_decision-clause-answer
returns-in_err-learn_by_decision-clause-answer g c =
    let m = g.M.Machine in
    let h = c.args.self.now in
    let server = c.self.inside.server in
    let sent = c.args.out.now.sent in
    let bytes = c.unwrap-text.result.now in
    let plan = plans.Follow c.in-Some.sent.from c.in-Some.sent.position c.in-Some.sent.action in
    let has : HasPlan m.next m.answers h sent c.args.place bytes plan = (
      λ message at. (text_found_is c.text.result c.unwrap-text.result (slice_get sent c.args.place) message c.unwrap-text.ensures c.text.ensures.text at, c.text.ensures.right message at),
      subst (λ (k : ReplicaState g.row.M.Denot). IsPlanOf m.next m.answers (server_of k) bytes plan) c.self.view_is
          (decided_plan m.next m.answers server bytes c.in-Some.sent.from c.in-Some.sent.position c.in-Some.sent.action false c.in-Some.ensures.plan (sym c.if-not-is_learned.true ∙ c.is_learned.ensures)),
    ) in
    not_carried_out m.next m.answers h sent c.args.place bytes plan has c.learn_by_decision.new.self c.learn_by_decision.new.out.sent c.from_residual.result c.in_err-learn_by_decision.field-0.0 c.from_residual.ensures.1 c.in_err-learn_by_decision.ensures.err c.in_err-learn_by_decision.ensures.unsent

pub returns-in_err-learn_by_decision-clause-certain : goal.returns-in_err-learn_by_decision-clause-certain
returns-in_err-learn_by_decision-clause-certain g c =
    let m = g.M.Machine in
    let h = c.args.self.now in
    let server = c.self.inside.server in
    let sent = c.args.out.now.sent in
    let bytes = c.unwrap-text.result.now in
    let plan = plans.Follow c.in-Some.sent.from c.in-Some.sent.position c.in-Some.sent.action in
    let has : HasPlan m.next m.answers h sent c.args.place bytes plan = (
      λ message at. (text_found_is c.text.result c.unwrap-text.result (slice_get sent c.args.place) message c.unwrap-text.ensures c.text.ensures.text at, c.text.ensures.right message at),
      subst (λ (k : ReplicaState g.row.M.Denot). IsPlanOf m.next m.answers (server_of k) bytes plan) c.self.view_is
          (decided_plan m.next m.answers server bytes c.in-Some.sent.from c.in-Some.sent.position c.in-Some.sent.action false c.in-Some.ensures.plan (sym c.if-not-is_learned.true ∙ c.is_learned.ensures)),
    ) in
    λ message at short turn is free working.
    let writes = takes_memory m.next m.answers h sent c.args.place bytes plan has (λ none. let never = none.written in absurd cc) message at turn is in
    absurd (writes free)

pub returns-else-not-is_learned-clause-answer : goal.returns-else-not-is_learned-clause-answer
returns-else-not-is_learned-clause-answer g c =
    let m = g.M.Machine in
    let h = c.args.self.now in
    let server = c.self.inside.server in
    let sent = c.args.out.now.sent in
    let bytes = c.unwrap-text.result.now in
    let plan = plans.Pass No in
    let has : HasPlan m.next m.answers h sent c.args.place bytes plan = (
      λ message at. (text_found_is c.text.result c.unwrap-text.result (slice_get sent c.args.place) message c.unwrap-text.ensures c.text.ensures.text at, c.text.ensures.right message at),
      subst (λ (k : ReplicaState g.row.M.Denot). IsPlanOf m.next m.answers (server_of k) bytes plan) c.self.view_is
          (decided_plan m.next m.answers server bytes c.in-Some.sent.from c.in-Some.sent.position c.in-Some.sent.action true c.in-Some.ensures.plan (sym c.if-not-is_learned.false ∙ c.is_learned.ensures)),
    ) in
    carried_out m.next m.answers h sent c.args.place bytes plan has h sent No c.requires.working (record { goes = refl; sent = sym (append-nil sent) }) refl
