use Rattle.std.proofs.Common.{length, ap, ◌∙◌}
use Rattle.rp_learner.specs.Status.{vote_for}
use Rattle.rp_server.specs.State.{ServerState}
use Rattle.rp_server.specs.Status.{status_of}
use Rattle.rp_server.proofs.Beginning.{front_is}
use Rattle.rp_server.proofs.Hearing.{status_is}
use Rattle.rp_server.proofs.server.Roles.status.Goals as goal

pub returns : goal.returns
returns g c =
    let r = c.self.inside in
    let vote = vote_for c.args.ballot c.args.action.now in
    c.vote.ensures
    ∙ status_is r.config r.acceptor.records (length r.log.taken) r.learner r.heard c.args.from c.args.position vote c.self.invariant.learns
    (front_is r.acceptor.records r.log r.machine c.self.invariant.applies) c.requires.place.0
    ∙ ap (λ (h : ServerState g.row.M.Denot). status_of h.config.nodes h.records h.running.heard c.args.from c.args.position vote) c.self.view_is
