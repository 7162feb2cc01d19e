-- By induction on the events.
use Rattle.rp_agreement.proofs.EventLists.{history_sound}
use Rattle.rp_agreement.proofs.histories.histories_are_sound.Goals as goal

pub returns : goal.returns
returns g c = λ s events w history. history_sound s (c.the_opening_is_sound.ensures s.config.nodes) events w history
