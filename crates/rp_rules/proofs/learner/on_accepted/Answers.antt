use Rattle.std.proofs.Common.{sym, ap, ◌∙◌}
use Rattle.rp_server.specs.rp_learner.specs.Status.{vote_for}
use Rattle.rp_rules.specs.Inputs.{running_server}
use Rattle.rp_rules.proofs.Accepted.{status_plan, accepted_plan}
use Rattle.rp_rules.proofs.learner.on_accepted.Goals as goal

pub returns-in-Learned-clause-plan : goal.returns-in-Learned-clause-plan
returns-in-Learned-clause-plan g c =
    let node = running_server g.M.Machine.next g.M.Machine.answers c.args.server.now in
    let h = c.args.header.now in
    let vote = vote_for h.ballot c.args.action.now in
    ap (status_plan node h.from h.position vote) (sym c.in-Learned.is ∙ c.status.ensures) ∙ accepted_plan node h.from h.position vote
