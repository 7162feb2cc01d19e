use Rattle.std.proofs.Common.{length, sym, subst}
use Rattle.rp_proposer.specs.Proposing.{ProposerPart}
use Rattle.rp_server.specs.Invariant.{IsProposer}
use Rattle.rp_server.proofs.Promising.{leads_offered, server_leading}
use Rattle.rp_server.proofs.server.Roles.offer.Goals as goal

pub invariant_of-self : goal.invariant_of-self
invariant_of-self g c =
    let r = c.self.inside in
    let taken = length r.log.taken in
    server_leading r.me r.config r.acceptor.records r.proposer c.offer.new.self r.learner r.heard r.log r.machine c.self.invariant
    (subst (λ (p : ProposerPart). IsProposer r.me r.config r.acceptor.records taken p) (sym c.offer.ensures.offered)
    (leads_offered r.me r.config r.acceptor.records taken r.proposer c.self.invariant.leads c.args.position c.args.action.now c.requires.right))
