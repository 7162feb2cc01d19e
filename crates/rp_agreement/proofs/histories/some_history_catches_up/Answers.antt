-- By computing the result of each event.
use Rattle.rp_agreement.proofs.PlayedAsking.{catches_up}
use Rattle.rp_agreement.proofs.histories.some_history_catches_up.Goals as goal

pub returns : goal.returns
returns g c = λ begin. catches_up g.M.Machine.next g.M.Machine.answers begin
