-- A promise counts, or is stale; or the action is offered to all.
use Rattle.std.proofs.Common.{rules, true, false, refl, sym, subst, ◌∙◌, append-nil}
use Rattle.std.specs.Prelude.{slice_get}
use Rattle.rp_codec.specs.declared.packet.Body.TheVariants as bodies
use Rattle.rp_model.specs.declared.effect.Dropped.TheVariants.{No}
use Rattle.rp_model.specs.declared.plan.Plan.TheVariants as plans
use Rattle.rp_outbox.proofs.Joined.{text_found_is}
use Rattle.rp_rules.specs.rp_proposer.specs.declared.proposal.Progress.TheVariants as steps
use Rattle.rp_rules.specs.Plans.{IsPlanOf}
use Rattle.rp_replica.specs.State.{ReplicaState, server_of}
use Rattle.rp_replica.proofs.Delivered.{HasPlan, progress_plan, waiting_plan, carried_out, not_carried_out, takes_memory, goes_to_some}
use Rattle.rp_replica.proofs.replica.Replica.deliver_promise.Goals as goal

pub returns-in_ok-offer-in-Offer-clause-answer : goal.returns-in_ok-offer-in-Offer-clause-answer
returns-in_ok-offer-in-Offer-clause-answer g c =
    let m = g.M.Machine in
    let h = c.args.self.now in
    let server = c.self.inside.server in
    let sent = c.args.out.now.sent in
    let bytes = c.unwrap.result.now in
    let plan = plans.Offer c.in-Some.promise c.in-Offer.action in
    let has : HasPlan m.next m.answers h sent c.args.place bytes plan = (
      λ message at. (text_found_is c.text.result c.unwrap.result (slice_get sent c.args.place) message c.unwrap.ensures c.text.ensures.text at, c.text.ensures.right message at),
      subst (λ (k : ReplicaState g.row.M.Denot). IsPlanOf m.next m.answers (server_of k) bytes plan) c.self.view_is
          (progress_plan m.next m.answers server bytes c.in-Some.promise (steps.Offer c.in-Offer.action) c.in-Some.ensures.plan c.in-Offer.ensures.progress),
    ) in
    carried_out m.next m.answers h sent c.args.place bytes plan has c.offer.new.self c.offer.new.out.sent No c.requires.working c.in_ok-offer-in-Offer.ensures.ok refl

pub returns-in_err-offer-in-Offer-clause-answer : goal.returns-in_err-offer-in-Offer-clause-answer
returns-in_err-offer-in-Offer-clause-answer g c =
    let m = g.M.Machine in
    let h = c.args.self.now in
    let server = c.self.inside.server in
    let sent = c.args.out.now.sent in
    let bytes = c.unwrap.result.now in
    let plan = plans.Offer c.in-Some.promise c.in-Offer.action in
    let has : HasPlan m.next m.answers h sent c.args.place bytes plan = (
      λ message at. (text_found_is c.text.result c.unwrap.result (slice_get sent c.args.place) message c.unwrap.ensures c.text.ensures.text at, c.text.ensures.right message at),
      subst (λ (k : ReplicaState g.row.M.Denot). IsPlanOf m.next m.answers (server_of k) bytes plan) c.self.view_is
          (progress_plan m.next m.answers server bytes c.in-Some.promise (steps.Offer c.in-Offer.action) c.in-Some.ensures.plan c.in-Offer.ensures.progress),
    ) in
    not_carried_out m.next m.answers h sent c.args.place bytes plan has c.offer.new.self c.offer.new.out.sent c.from_residual.result c.in_err-offer-in-Offer.field-0.0 c.from_residual.ensures.1 c.in_err-offer-in-Offer.ensures.err c.in_err-offer-in-Offer.ensures.unsent

pub returns-in_err-offer-in-Offer-clause-certain : goal.returns-in_err-offer-in-Offer-clause-certain
returns-in_err-offer-in-Offer-clause-certain g c =
    let m = g.M.Machine in
    let h = c.args.self.now in
    let server = c.self.inside.server in
    let sent = c.args.out.now.sent in
    let bytes = c.unwrap.result.now in
    let plan = plans.Offer c.in-Some.promise c.in-Offer.action in
    let has : HasPlan m.next m.answers h sent c.args.place bytes plan = (
      λ message at. (text_found_is c.text.result c.unwrap.result (slice_get sent c.args.place) message c.unwrap.ensures c.text.ensures.text at, c.text.ensures.right message at),
      subst (λ (k : ReplicaState g.row.M.Denot). IsPlanOf m.next m.answers (server_of k) bytes plan) c.self.view_is
          (progress_plan m.next m.answers server bytes c.in-Some.promise (steps.Offer c.in-Offer.action) c.in-Some.ensures.plan c.in-Offer.ensures.progress),
    ) in
    λ message at short turn is free working.
    let sends = takes_memory m.next m.answers h sent c.args.place bytes plan has (λ none. absurd (goes_to_some h.config.nodes h.me (bodies.Accept c.in-Some.promise.position c.in-Some.promise.ballot c.in-Offer.action) c.offer.ensures.config.nodes.0 none.sent)) message at turn is in
    absurd (sends free)

pub returns-in-Waiting-clause-answer : goal.returns-in-Waiting-clause-answer
returns-in-Waiting-clause-answer g c =
    let m = g.M.Machine in
    let h = c.args.self.now in
    let server = c.self.inside.server in
    let sent = c.args.out.now.sent in
    let bytes = c.unwrap.result.now in
    let plan = plans.CountPromise c.in-Some.promise in
    let has : HasPlan m.next m.answers h sent c.args.place bytes plan = (
      λ message at. (text_found_is c.text.result c.unwrap.result (slice_get sent c.args.place) message c.unwrap.ensures c.text.ensures.text at, c.text.ensures.right message at),
      subst (λ (k : ReplicaState g.row.M.Denot). IsPlanOf m.next m.answers (server_of k) bytes plan) c.self.view_is
          (waiting_plan m.next m.answers server bytes c.in-Some.promise true c.in-Some.ensures.plan (sym c.if-is_preparing.true ∙ c.is_preparing.ensures) c.in-Waiting.ensures.progress),
    ) in
    carried_out m.next m.answers h sent c.args.place bytes plan has c.note_promise.new.self sent No c.requires.working (record { goes = c.note_promise.ensures; sent = sym (append-nil sent) }) refl

pub returns-else-is_preparing-clause-answer : goal.returns-else-is_preparing-clause-answer
returns-else-is_preparing-clause-answer g c =
    let m = g.M.Machine in
    let h = c.args.self.now in
    let server = c.self.inside.server in
    let sent = c.args.out.now.sent in
    let bytes = c.unwrap.result.now in
    let plan = plans.Pass No in
    let has : HasPlan m.next m.answers h sent c.args.place bytes plan = (
      λ message at. (text_found_is c.text.result c.unwrap.result (slice_get sent c.args.place) message c.unwrap.ensures c.text.ensures.text at, c.text.ensures.right message at),
      subst (λ (k : ReplicaState g.row.M.Denot). IsPlanOf m.next m.answers (server_of k) bytes plan) c.self.view_is
          (waiting_plan m.next m.answers server bytes c.in-Some.promise false c.in-Some.ensures.plan (sym c.if-is_preparing.false ∙ c.is_preparing.ensures) c.in-Waiting.ensures.progress),
    ) in
    carried_out m.next m.answers h sent c.args.place bytes plan has h sent No c.requires.working (record { goes = refl; sent = sym (append-nil sent) }) refl

pub returns-in-Some-clause-answer : goal.returns-in-Some-clause-answer
returns-in-Some-clause-answer g c =
    let m = g.M.Machine in
    let h = c.args.self.now in
    let server = c.self.inside.server in
    let sent = c.args.out.now.sent in
    let bytes = c.unwrap.result.now in
    let plan = plans.Pass No in
    let has : HasPlan m.next m.answers h sent c.args.place bytes plan = (
      λ message at. (text_found_is c.text.result c.unwrap.result (slice_get sent c.args.place) message c.unwrap.ensures c.text.ensures.text at, c.text.ensures.right message at),
      subst (λ (k : ReplicaState g.row.M.Denot). IsPlanOf m.next m.answers (server_of k) bytes plan) c.self.view_is
          (progress_plan m.next m.answers server bytes c.in-Some.promise (steps.Stale) c.in-Some.ensures.plan (search rules)),
    ) in
    carried_out m.next m.answers h sent c.args.place bytes plan has h sent No c.requires.working (record { goes = refl; sent = sym (append-nil sent) }) refl
