use Rattle.rp_server.proofs.Keeping.{server_kept}
use Rattle.rp_server.proofs.server.Roles.keep.Goals as goal

pub invariant_of-self : goal.invariant_of-self
invariant_of-self g c =
    let r = c.self.inside in
    server_kept r.me r.config r.acceptor.records r.proposer r.learner r.heard r.log r.machine c.write.result c.args.rec.now c.write.new.acceptor.records
    c.write.ensures.noted c.write.ensures.unchanged c.self.invariant c.requires.answer c.requires.right
