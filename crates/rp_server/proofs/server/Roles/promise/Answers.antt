use Rattle.std.proofs.Common.{◌∙◌}
use Rattle.rp_server.proofs.Promising.{offers_right}
use Rattle.rp_server.proofs.server.Roles.promise.Goals as goal

pub returns-clause-right : goal.returns-clause-right
returns-clause-right g c = λ v e.
    let r = c.self.inside in
    offers_right r.proposer.proposals r.proposer.nodes c.args.position c.args.ballot (c.args.from, c.args.last) v c.self.invariant.leads.right c.requires.vote (e ∙ c.promise.ensures)
