use Rattle.std.proofs.Common.{sym, ◌∙◌}
use Rattle.rp_base.specs.Proposals.{proposal_at}
use Rattle.rp_rules.specs.Inputs.{running_server}
use Rattle.rp_rules.proofs.Leading.{lead_within}
use Rattle.rp_server.proofs.Prepared.{leads_by}
use Rattle.rp_rules.proofs.leader.on_lead_at.Goals as goal

pub returns-in-Some-clause-ok : goal.returns-in-Some-clause-ok
returns-in-Some-clause-ok g c =
    let m = g.M.Machine in
    let h = c.args.server.now in
    let node = running_server m.next m.answers h in
    let i = c.args.position in
    leads_by node i _ _ _ (proposal_at h.running.proposals i) (sym c.in-Some.ensures.found) c.prepared_action-action.ensures.action
    ∙ lead_within node i (sym c.is_learned.ensures ∙ c.if-is_learned.false) (sym c.is_out_of_reach.ensures ∙ c.if-is_out_of_reach.false)

pub returns-in-Some-clause-may : goal.returns-in-Some-clause-may
returns-in-Some-clause-may g c = c.prepared_action-action.ensures.right c.in-Some.ensures.right
