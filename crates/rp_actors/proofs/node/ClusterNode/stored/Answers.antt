use Rattle.std.proofs.Common.{subst, ◌∙◌}
use Rattle.rp_actors.specs.Nodes.{Represents}
use Rattle.rp_actors.proofs.Represented.{length_of, resting_length}
use Rattle.rp_actors.proofs.node.ClusterNode.stored.Goals as goal

pub returns-in-Running : goal.returns-in-Running
returns-in-Running g c = λ member part is.
    c.stored.ensures ∙ length_of member c.in-Running.replica part (subst (λ n. Represents g.D.Device.disk member n part) c.in-Running.is is)

pub returns-in-Stopped : goal.returns-in-Stopped
returns-in-Stopped g c = λ member part is.
    c.len.ensures ∙ resting_length _ _ part (subst (λ n. Represents g.D.Device.disk member n part) c.in-Stopped.is is)
