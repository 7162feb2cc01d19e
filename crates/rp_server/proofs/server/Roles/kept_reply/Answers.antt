use Rattle.std.proofs.Common.{ap, ◌∙◌}
use Rattle.rp_base.specs.Records.{applied_of}
use Rattle.rp_machine.specs.Asked.{kept_reply}
use Rattle.rp_machine.specs.Replay.{Replayed, replay_of}
use Rattle.rp_server.specs.State.{ServerState}
use Rattle.rp_server.proofs.Applied.{outcome_is}
use Rattle.rp_server.proofs.server.Roles.kept_reply.Goals as goal

pub returns : goal.returns
returns g c =
    let n = g.M.Machine.next in
    let k = g.M.Machine.answers in
    let s = c.self.inside in
    c.kept.ensures
    ∙ ap (λ (r : Replayed g.row.M.Denot). kept_reply c.args.task c.args.number r.kept r.given) (outcome_is n k s.acceptor.records s.log s.machine c.self.invariant.applies)
    ∙ ap (λ (h : ServerState g.row.M.Denot). let r = replay_of n k h.begin (applied_of h.records) in kept_reply c.args.task c.args.number r.kept r.given) c.self.view_is
