-- By the walk over the events.
use Rattle.rp_agreement.proofs.NotedWorlds.{decided_noted}
use Rattle.rp_agreement.proofs.histories.only_noted_actions_are_decided.Goals as goal

pub returns : goal.returns
returns g c = λ s events w history. decided_noted s (c.the_opening_is_sound.ensures s.config.nodes) events w history
