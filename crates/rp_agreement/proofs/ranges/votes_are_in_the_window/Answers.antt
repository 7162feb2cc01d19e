-- By the walk over the events.
use Rattle.rp_agreement.proofs.NearKeeping.{votes_near}
use Rattle.rp_agreement.proofs.ranges.votes_are_in_the_window.Goals as goal

pub returns : goal.returns
returns g c = λ s events w history. votes_near s events w history
