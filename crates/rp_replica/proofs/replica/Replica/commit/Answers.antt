use Rattle.std.proofs.Common.{sym, subst}
use Rattle.std.specs.Prelude.{OnOk}
use Rattle.rp_replica.specs.Committing.{Commits}
use Rattle.rp_model.specs.declared.plan.Plan.{Plan}
use Rattle.rp_rules.specs.Plans.{turn_of_plan, TakesNoMemory}
use Rattle.rp_replica.specs.State.{server_of}
use Rattle.rp_replica.proofs.Certain.{notes_again}
use Rattle.rp_replica.proofs.replica.Replica.commit.Goals as goal

pub returns-in-Follow-clause-ok : goal.returns-in-Follow-clause-ok
returns-in-Follow-clause-ok g c =
    let m = g.M.Machine in
    let h = c.args.self.now in
    subst (λ (plan : Plan). OnOk c.learn_by_decision.result (Commits (turn_of_plan m.next m.answers (server_of h) plan) h c.learn_by_decision.new.self c.args.out.now.sent c.learn_by_decision.new.out.sent))
    (sym c.in-Follow.is) c.learn_by_decision.ensures.ok

pub returns-in-CountVote-clause-certain : goal.returns-in-CountVote-clause-certain
returns-in-CountVote-clause-certain g c = λ free.
    let m = g.M.Machine in
    let h = c.args.self.now in
    let here = subst (λ (plan : Plan). TakesNoMemory h.running (turn_of_plan m.next m.answers (server_of h) plan)) c.in-CountVote.is free in
    notes_again h.running.heard c.in-CountVote.from c.in-CountVote.position c.in-CountVote.vote c.hear.result c.hear.ensures.unheard here.heard
