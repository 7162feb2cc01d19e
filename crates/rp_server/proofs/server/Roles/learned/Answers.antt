use Rattle.std.proofs.Common.{sym, ◌∙◌}
use Rattle.rp_server.proofs.Applied.{right_if_learned}
use Rattle.rp_server.proofs.server.Roles.learned.Goals as goal

pub returns-clause-right : goal.returns-clause-right
returns-clause-right g c =
    let r = c.self.inside in
    right_if_learned r.acceptor.records c.args.position c.get.result c.self.invariant.right (sym (c.get.ensures ∙ c.self.invariant.applies.learned c.args.position))
