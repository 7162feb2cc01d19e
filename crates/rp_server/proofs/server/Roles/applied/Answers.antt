use Rattle.std.proofs.Common.{List, length, ap, ◌∙◌}
use Rattle.rp_base.specs.declared.action.Action.{Action}
use Rattle.rp_base.specs.Records.{applied_of}
use Rattle.rp_log.proofs.RecordedRuns.{all_taken}
use Rattle.rp_server.specs.State.{ServerState}
use Rattle.rp_server.proofs.server.Roles.applied.Goals as goal

pub returns-clause-count : goal.returns-clause-count
returns-clause-count g c =
    let r = c.self.inside in
    let a = c.self.invariant.applies in
    c.applied.ensures.count
    ∙ ap (λ (actions : List Action). length actions) (all_taken r.acceptor.records r.log a.learned a.ordered a.none)
    ∙ ap (λ (h : ServerState g.row.M.Denot). length (applied_of h.records)) c.self.view_is
