use Rattle.std.proofs.Common.{ap, ◌∙◌}
use Rattle.rp_base.specs.Records.{applied_of}
use Rattle.rp_machine.specs.Replay.{Replayed, replay_state}
use Rattle.rp_server.specs.State.{ServerState}
use Rattle.rp_server.proofs.Applied.{outcome_is}
use Rattle.rp_server.proofs.server.Roles.image.Goals as goal

pub returns-clause-image : goal.returns-clause-image
returns-clause-image g c =
    let n = g.M.Machine.next in
    let k = g.M.Machine.answers in
    let s = c.self.inside in
    c.in_ok-image.ensures
    ∙ ap g.M.Machine.image
    (c.machine.ensures
    ∙ ap (λ (r : Replayed g.row.M.Denot). r.state) (outcome_is n k s.acceptor.records s.log s.machine c.self.invariant.applies)
    ∙ ap (λ (h : ServerState g.row.M.Denot). replay_state n k h.begin (applied_of h.records)) c.self.view_is)
