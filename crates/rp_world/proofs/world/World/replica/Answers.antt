use Rattle.rp_world.proofs.Asked.{replica_of}
use Rattle.rp_actors.proofs.Fields.{fields_of}
use Rattle.rp_actors.proofs.Placing.{found_in}
use Rattle.rp_world.proofs.world.World.replica.Goals as goal

pub returns : goal.returns
returns g c =
    let f = fields_of g.M.Machine.next g.M.Machine.answers g.M.Machine.begin c.self.inside.messages c.self.invariant c.self.view_is in
    let at = found_in c.in-Some.node.now c.deref.ensures.value c.get.ensures c.from.ensures c.in-Some.ensures.lookup.0 c.in-Some.ensures.lookup.1 in
    replica_of f at c.replica.result c.replica.ensures.runs c.replica.ensures.rests c.ok_or.ensures.value
