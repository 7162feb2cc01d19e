use Rattle.std.proofs.Common.{ap, ◌∙◌}
use Rattle.rp_base.specs.Records.{applied_of}
use Rattle.rp_machine.specs.Asked.{last_number}
use Rattle.rp_machine.specs.Replay.{Replayed, replay_of}
use Rattle.rp_server.specs.State.{ServerState}
use Rattle.rp_server.proofs.Applied.{outcome_is}
use Rattle.rp_server.proofs.server.Roles.last_number.Goals as goal

pub returns : goal.returns
returns g c =
    let n = g.M.Machine.next in
    let k = g.M.Machine.answers in
    let s = c.self.inside in
    c.last.ensures
    ∙ ap (λ (r : Replayed g.row.M.Denot). last_number c.args.task r.kept) (outcome_is n k s.acceptor.records s.log s.machine c.self.invariant.applies)
    ∙ ap (λ (h : ServerState g.row.M.Denot). let r = replay_of n k h.begin (applied_of h.records) in last_number c.args.task r.kept) c.self.view_is
