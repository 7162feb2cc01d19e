-- A vote is known or counts, or an action is learned by votes.
use Rattle.std.proofs.Common.{◌≡◌, false, true, refl, sym, subst, append-nil, ◌∙◌}
use Rattle.std.specs.Prelude.{slice_get, Result, Err}
use Rattle.rp_base.specs.declared.fault.WriteFault.{WriteFault}
use Rattle.rp_rules.specs.rp_learner.specs.Status.{vote_for}
use Rattle.rp_rules.specs.rp_learner.specs.declared.learner.VoteStatus.TheVariants as statuses
use Rattle.rp_model.specs.declared.effect.Dropped.TheVariants.{No}
use Rattle.rp_model.specs.declared.plan.Plan.TheVariants as plans
use Rattle.rp_outbox.proofs.Joined.{text_found_is}
use Rattle.rp_rules.specs.Plans.{IsPlanOf}
use Rattle.rp_replica.specs.State.{ReplicaState, server_of}
use Rattle.rp_replica.proofs.Certain.{notes_again}
use Rattle.rp_replica.proofs.Delivered.{HasPlan, heard_plan, carried_out, not_carried_out, takes_memory}
use Rattle.rp_replica.proofs.replica.Replica.deliver_accepted.Goals as goal

pub returns-in-Known-clause-answer : goal.returns-in-Known-clause-answer
returns-in-Known-clause-answer g c =
    let m = g.M.Machine in
    let h = c.args.self.now in
    let server = c.self.inside.server in
    let sent = c.args.out.now.sent in
    let bytes = c.unwrap-text.result.now in
    let plan = plans.Pass No in
    let has : HasPlan m.next m.answers h sent c.args.place bytes plan = (
      λ message at. (text_found_is c.text.result c.unwrap-text.result (slice_get sent c.args.place) message c.unwrap-text.ensures c.text.ensures.text at, c.text.ensures.right message at),
      subst (λ (k : ReplicaState g.row.M.Denot). IsPlanOf m.next m.answers (server_of k) bytes plan) c.self.view_is
          (heard_plan m.next m.answers server bytes c.in-Some.header.from c.in-Some.header.position (vote_for c.in-Some.header.ballot c.in-Some.action) statuses.Known c.in-Some.ensures.plan (sym c.in-Known.is ∙ c.status.ensures)),
    ) in
    carried_out m.next m.answers h sent c.args.place bytes plan has h sent No c.requires.working (record { goes = refl; sent = sym (append-nil sent) }) refl

pub returns-in-Beyond-clause-answer : goal.returns-in-Beyond-clause-answer
returns-in-Beyond-clause-answer g c =
    let m = g.M.Machine in
    let h = c.args.self.now in
    let server = c.self.inside.server in
    let sent = c.args.out.now.sent in
    let bytes = c.unwrap-text.result.now in
    let plan = plans.Pass No in
    let has : HasPlan m.next m.answers h sent c.args.place bytes plan = (
      λ message at. (text_found_is c.text.result c.unwrap-text.result (slice_get sent c.args.place) message c.unwrap-text.ensures c.text.ensures.text at, c.text.ensures.right message at),
      subst (λ (k : ReplicaState g.row.M.Denot). IsPlanOf m.next m.answers (server_of k) bytes plan) c.self.view_is
          (heard_plan m.next m.answers server bytes c.in-Some.header.from c.in-Some.header.position (vote_for c.in-Some.header.ballot c.in-Some.action) statuses.Beyond c.in-Some.ensures.plan (sym c.in-Beyond.is ∙ c.status.ensures)),
    ) in
    carried_out m.next m.answers h sent c.args.place bytes plan has h sent No c.requires.working (record { goes = refl; sent = sym (append-nil sent) }) refl

pub returns-in_ok-hear-in-Counting-clause-answer : goal.returns-in_ok-hear-in-Counting-clause-answer
returns-in_ok-hear-in-Counting-clause-answer g c =
    let m = g.M.Machine in
    let h = c.args.self.now in
    let server = c.self.inside.server in
    let sent = c.args.out.now.sent in
    let bytes = c.unwrap-text.result.now in
    let plan = plans.CountVote c.in-Some.header.from c.in-Some.header.position (vote_for c.in-Some.header.ballot c.in-Some.action) in
    let has : HasPlan m.next m.answers h sent c.args.place bytes plan = (
      λ message at. (text_found_is c.text.result c.unwrap-text.result (slice_get sent c.args.place) message c.unwrap-text.ensures c.text.ensures.text at, c.text.ensures.right message at),
      subst (λ (k : ReplicaState g.row.M.Denot). IsPlanOf m.next m.answers (server_of k) bytes plan) c.self.view_is
          (heard_plan m.next m.answers server bytes c.in-Some.header.from c.in-Some.header.position (vote_for c.in-Some.header.ballot c.in-Some.action) statuses.Counting c.in-Some.ensures.plan (sym c.in-Counting.is ∙ c.status.ensures)),
    ) in
    carried_out m.next m.answers h sent c.args.place bytes plan has c.hear.new.self sent No c.requires.working (record { goes = c.in_ok-hear-in-Counting.ensures.ok; sent = sym (append-nil sent) }) refl

pub returns-in_err-hear-in-Counting-clause-certain : goal.returns-in_err-hear-in-Counting-clause-certain
returns-in_err-hear-in-Counting-clause-certain g c =
    let m = g.M.Machine in
    let h = c.args.self.now in
    let server = c.self.inside.server in
    let sent = c.args.out.now.sent in
    let bytes = c.unwrap-text.result.now in
    let failed : Result Unit WriteFault = Err c.in_err-hear-in-Counting.field-0.0 in
    let plan = plans.CountVote c.in-Some.header.from c.in-Some.header.position (vote_for c.in-Some.header.ballot c.in-Some.action) in
    let has : HasPlan m.next m.answers h sent c.args.place bytes plan = (
      λ message at. (text_found_is c.text.result c.unwrap-text.result (slice_get sent c.args.place) message c.unwrap-text.ensures c.text.ensures.text at, c.text.ensures.right message at),
      subst (λ (k : ReplicaState g.row.M.Denot). IsPlanOf m.next m.answers (server_of k) bytes plan) c.self.view_is
          (heard_plan m.next m.answers server bytes c.in-Some.header.from c.in-Some.header.position (vote_for c.in-Some.header.ballot c.in-Some.action) statuses.Counting c.in-Some.ensures.plan (sym c.in-Counting.is ∙ c.status.ensures)),
    ) in
    λ message at short turn is free working.
    let counts = takes_memory m.next m.answers h sent c.args.place bytes plan has (λ none. let never : false ≡ true = notes_again h.running.heard c.in-Some.header.from c.in-Some.header.position (vote_for c.in-Some.header.ballot c.in-Some.action) failed c.in_err-hear-in-Counting.ensures.unheard none.heard in absurd cc) message at turn is in
    absurd (counts free)

pub returns-in_ok-learn_by_votes-in-Learned-clause-answer : goal.returns-in_ok-learn_by_votes-in-Learned-clause-answer
returns-in_ok-learn_by_votes-in-Learned-clause-answer g c =
    let m = g.M.Machine in
    let h = c.args.self.now in
    let server = c.self.inside.server in
    let sent = c.args.out.now.sent in
    let bytes = c.unwrap-text.result.now in
    let plan = plans.Learn c.in-Some.header.position c.in-Some.action in
    let has : HasPlan m.next m.answers h sent c.args.place bytes plan = (
      λ message at. (text_found_is c.text.result c.unwrap-text.result (slice_get sent c.args.place) message c.unwrap-text.ensures c.text.ensures.text at, c.text.ensures.right message at),
      subst (λ (k : ReplicaState g.row.M.Denot). IsPlanOf m.next m.answers (server_of k) bytes plan) c.self.view_is
          (heard_plan m.next m.answers server bytes c.in-Some.header.from c.in-Some.header.position (vote_for c.in-Some.header.ballot c.in-Some.action) statuses.Learned c.in-Some.ensures.plan (sym c.in-Learned.is ∙ c.status.ensures)),
    ) in
    carried_out m.next m.answers h sent c.args.place bytes plan has c.learn_by_votes.new.self c.learn_by_votes.new.out.sent No c.requires.working c.in_ok-learn_by_votes-in-Learned.ensures.ok refl

pub returns-in_err-learn_by_votes-in-Learned-clause-answer : goal.returns-in_err-learn_by_votes-in-Learned-clause-answer
returns-in_err-learn_by_votes-in-Learned-clause-answer g c =
    let m = g.M.Machine in
    let h = c.args.self.now in
    let server = c.self.inside.server in
    let sent = c.args.out.now.sent in
    let bytes = c.unwrap-text.result.now in
    let plan = plans.Learn c.in-Some.header.position c.in-Some.action in
    let has : HasPlan m.next m.answers h sent c.args.place bytes plan = (
      λ message at. (text_found_is c.text.result c.unwrap-text.result (slice_get sent c.args.place) message c.unwrap-text.ensures c.text.ensures.text at, c.text.ensures.right message at),
      subst (λ (k : ReplicaState g.row.M.Denot). IsPlanOf m.next m.answers (server_of k) bytes plan) c.self.view_is
          (heard_plan m.next m.answers server bytes c.in-Some.header.from c.in-Some.header.position (vote_for c.in-Some.header.ballot c.in-Some.action) statuses.Learned c.in-Some.ensures.plan (sym c.in-Learned.is ∙ c.status.ensures)),
    ) in
    not_carried_out m.next m.answers h sent c.args.place bytes plan has c.learn_by_votes.new.self c.learn_by_votes.new.out.sent c.from_residual-in_err-learn_by_votes-in-Learned.result c.in_err-learn_by_votes-in-Learned.field-0.0 c.from_residual-in_err-learn_by_votes-in-Learned.ensures.1 c.in_err-learn_by_votes-in-Learned.ensures.err c.in_err-learn_by_votes-in-Learned.ensures.unsent

pub returns-in_err-learn_by_votes-in-Learned-clause-certain : goal.returns-in_err-learn_by_votes-in-Learned-clause-certain
returns-in_err-learn_by_votes-in-Learned-clause-certain g c =
    let m = g.M.Machine in
    let h = c.args.self.now in
    let server = c.self.inside.server in
    let sent = c.args.out.now.sent in
    let bytes = c.unwrap-text.result.now in
    let plan = plans.Learn c.in-Some.header.position c.in-Some.action in
    let has : HasPlan m.next m.answers h sent c.args.place bytes plan = (
      λ message at. (text_found_is c.text.result c.unwrap-text.result (slice_get sent c.args.place) message c.unwrap-text.ensures c.text.ensures.text at, c.text.ensures.right message at),
      subst (λ (k : ReplicaState g.row.M.Denot). IsPlanOf m.next m.answers (server_of k) bytes plan) c.self.view_is
          (heard_plan m.next m.answers server bytes c.in-Some.header.from c.in-Some.header.position (vote_for c.in-Some.header.ballot c.in-Some.action) statuses.Learned c.in-Some.ensures.plan (sym c.in-Learned.is ∙ c.status.ensures)),
    ) in
    λ message at short turn is free working.
    let writes = takes_memory m.next m.answers h sent c.args.place bytes plan has (λ none. let never = none.written in absurd cc) message at turn is in
    absurd (writes free)
