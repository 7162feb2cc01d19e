use Rattle.std.proofs.Common.{ap, ◌∙◌, sym}
use Rattle.rp_store.specs.Disk.{Disk}
use Rattle.rp_model.specs.Effect.{goes_on_as, stop_part}
use Rattle.rp_actors.specs.Nodes.{failures_in}
use Rattle.rp_actors.proofs.Represented.{node_runs, runs_as, stops_as}
use Rattle.rp_actors.proofs.node.ClusterNode.stop.Goals as goal

pub returns-else-has_failed-clause-ok : goal.returns-else-has_failed-clause-ok
returns-else-has_failed-clause-ok g c = λ member part is.
    let r = node_runs g.D.Device.disk g.M.Machine.next g.M.Machine.answers c.in-Running.is c.has_failed.ensures c.if-has_failed.false in
    let stopped = stops_as member r.replica (r.disk c.close.result) part (runs_as r member part is) c.close.ensures.holds c.close.ensures.only in
    (goes_on_as (stop_part part), stopped.0, stopped.1, tt, ap (λ (d : Disk). d.failures) c.close.ensures.disk ∙ ap (failures_in g.D.Device.disk) (sym c.in-Running.is))
