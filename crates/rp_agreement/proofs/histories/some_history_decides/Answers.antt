-- By computing the result of each event.
use Rattle.rp_agreement.proofs.Playing.{decides}
use Rattle.rp_agreement.proofs.histories.some_history_decides.Goals as goal

pub returns : goal.returns
returns g c = λ begin. decides g.M.Machine.next g.M.Machine.answers begin
