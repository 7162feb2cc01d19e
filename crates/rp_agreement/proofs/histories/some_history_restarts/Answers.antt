-- By computing the result of each event.
use Rattle.rp_agreement.proofs.PlayedRestarts.{restarts}
use Rattle.rp_agreement.proofs.histories.some_history_restarts.Goals as goal

pub returns : goal.returns
returns g c = λ begin. restarts g.M.Machine.next g.M.Machine.answers begin
