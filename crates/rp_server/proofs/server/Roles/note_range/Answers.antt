use Rattle.std.proofs.Common.{length, sym, subst}
use Rattle.rp_proposer.specs.Proposing.{ProposerPart}
use Rattle.rp_server.specs.Invariant.{IsProposer}
use Rattle.rp_server.proofs.Promising.{leads_promised_range, server_leading}
use Rattle.rp_server.proofs.server.Roles.note_range.Goals as goal

pub invariant_of-self : goal.invariant_of-self
invariant_of-self g c =
    let r = c.self.inside in
    let taken = length r.log.taken in
    server_leading r.me r.config r.acceptor.records r.proposer c.note_range.new.self r.learner r.heard r.log r.machine c.self.invariant
    (subst (λ (q : ProposerPart). IsProposer r.me r.config r.acceptor.records taken q) (sym c.note_range.ensures.noted)
    (leads_promised_range r.me r.config r.acceptor.records taken r.proposer c.self.invariant.leads c.args.from c.args.range c.args.ballot c.args.votes.now c.requires.right))
