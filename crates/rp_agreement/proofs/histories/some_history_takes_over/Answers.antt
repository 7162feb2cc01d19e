-- By computing the result of each event.
use Rattle.rp_agreement.proofs.PlayedTakeovers.{takes_over}
use Rattle.rp_agreement.proofs.histories.some_history_takes_over.Goals as goal

pub returns : goal.returns
returns g c = λ begin. takes_over g.M.Machine.next g.M.Machine.answers begin
