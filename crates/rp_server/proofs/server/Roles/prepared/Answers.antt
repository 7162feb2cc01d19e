use Rattle.std.proofs.Common.{sym}
use Rattle.rp_server.proofs.Prepared.{found_right}
use Rattle.rp_server.proofs.server.Roles.prepared.Goals as goal

pub returns-clause-right : goal.returns-clause-right
returns-clause-right g c =
    let r = c.self.inside in
    found_right r.proposer.nodes c.args.position r.proposer.proposals c.prepared.result c.self.invariant.leads.right (sym c.prepared.ensures)
