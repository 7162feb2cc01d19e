use Rattle.std.proofs.Common.{◌≡◌, true, false}
use Rattle.rp_world.proofs.cluster.Cluster.step.Goals as goal

pub returns-in_err-step_into-clause-certain : goal.returns-in_err-step_into-clause-certain
returns-in_err-step_into-clause-certain g c = λ step is light. let never : false ≡ true = c.in_err-step_into.ensures.certain step is light in cc
