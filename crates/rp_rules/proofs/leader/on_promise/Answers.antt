use Rattle.std.proofs.Common.{rules, true, false, refl, sym, ◌∙◌}
use Rattle.rp_server.specs.rp_proposer.specs.declared.proposal.Progress.TheVariants.{Waiting, Offer, Stale}
use Rattle.rp_rules.specs.Inputs.{running_server}
use Rattle.rp_server.proofs.Promising.{plan_is, plan_waits}
use Rattle.rp_rules.proofs.leader.on_promise.Goals as goal
use Rattle.rp_rules.proofs.leader.on_promise.Goals.{in-Waiting+else-is_preparing, in-Stale-1}

pub returns-in-Offer-clause-may : goal.returns-in-Offer-clause-may
returns-in-Offer-clause-may g c = (c.requires.may, c.in-Offer.ensures.right c.in-Offer.action refl)

pub returns-in-Offer-clause-plan : goal.returns-in-Offer-clause-plan
returns-in-Offer-clause-plan g c =
    let m = g.M.Machine in
    plan_is (running_server m.next m.answers c.args.server.now) c.args.promise (Offer c.in-Offer.action) c.in-Offer.ensures.progress

pub returns-in-Waiting-clause-plan : goal.returns-in-Waiting-clause-plan
returns-in-Waiting-clause-plan g c =
    let m = g.M.Machine in
    plan_waits (running_server m.next m.answers c.args.server.now) c.args.promise true (sym c.if-is_preparing.true ∙ c.is_preparing.ensures) c.in-Waiting.ensures.progress

pub returns-in-Waiting-2-clause-plan : goal.returns-in-Waiting-2-clause-plan
returns-in-Waiting-2-clause-plan g c =
    let m = g.M.Machine in
    elim c.in-Waiting-2-1.branch [
      | in-Waiting+else-is_preparing w ↦ plan_waits (running_server m.next m.answers c.args.server.now) c.args.promise false (sym w.if-is_preparing.false ∙ w.is_preparing.ensures) w.in-Waiting.ensures.progress
      | in-Stale-1 w ↦ plan_is (running_server m.next m.answers c.args.server.now) c.args.promise Stale (search rules)
    ]
