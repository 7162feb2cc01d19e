use Rattle.rp_model.specs.Parts.{fresh_node}
use Rattle.rp_actors.specs.Nodes.{member_of}
use Rattle.rp_actors.proofs.Represented.{represents, runs_fresh}
use Rattle.rp_actors.proofs.node.ClusterNode.open.Goals as goal

pub returns-in-Ok-clause-ok : goal.returns-in-Ok-clause-ok
returns-in-Ok-clause-ok g c =
    let m = g.M.Machine in
    let member = member_of c.args.me c.args.config (m.begin c.args.program.now) in
    represents member c.in-Ok.opening.replica fresh_node
    (runs_fresh member (g.D.Device.disk c.args.device) c.in-Ok.opening.replica c.in-Ok.opening.records c.in-Ok.opening.cut_bytes
    c.in-Ok.ensures.ok c.requires.empty)

pub returns-in-Ok-clause-failures : goal.returns-in-Ok-clause-failures
returns-in-Ok-clause-failures g c = c.in-Ok.ensures.ok.opened.failures
