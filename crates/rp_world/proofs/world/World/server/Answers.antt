use Rattle.rp_world.proofs.Asked.{server_found, no_server}
use Rattle.rp_actors.proofs.Fields.{fields_of}
use Rattle.rp_actors.proofs.Placing.{found_in}
use Rattle.rp_world.proofs.world.World.server.Goals as goal

pub returns-in-Some-replica : goal.returns-in-Some-replica
returns-in-Some-replica g c =
    let f = fields_of g.M.Machine.next g.M.Machine.answers g.M.Machine.begin c.self.inside.messages c.self.invariant c.self.view_is in
    let at = found_in c.in-Some.node.now c.deref.ensures.value c.get.ensures c.from.ensures c.in-Some.ensures.lookup.0 c.in-Some.ensures.lookup.1 in
    server_found f at c.in-Some-replica.replica.now c.in-Some-replica.ensures.runs c.server.result c.server.ensures

pub returns-in-None : goal.returns-in-None
returns-in-None g c =
    let f = fields_of g.M.Machine.next g.M.Machine.answers g.M.Machine.begin c.self.inside.messages c.self.invariant c.self.view_is in
    let at = found_in c.in-Some.node.now c.deref.ensures.value c.get.ensures c.from.ensures c.in-Some.ensures.lookup.0 c.in-Some.ensures.lookup.1 in
    no_server f at c.in-None.ensures.rests
