-- By what the step was.
use Rattle.std.proofs.Common.{sym, subst}
use Rattle.rp_actors.specs.Steps.{IsLightStep, cluster_setting}
use Rattle.rp_world.proofs.cluster.Cluster.step_into.Goals as goal

pub returns-clause-certain : goal.returns-clause-certain
returns-clause-certain g c = λ taken is light.
    let m = g.M.Machine in
    c.step_into.ensures.certain taken is (subst (λ was. IsLightStep (cluster_setting m.next m.answers m.begin was) was.world taken) (sym c.self.view_is) light)
