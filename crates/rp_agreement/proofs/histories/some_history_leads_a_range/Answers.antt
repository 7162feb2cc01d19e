-- By computing the result of each event.
use Rattle.rp_agreement.proofs.PlayedRanges.{leads_a_range}
use Rattle.rp_agreement.proofs.histories.some_history_leads_a_range.Goals as goal

pub returns : goal.returns
returns g c = λ begin. leads_a_range g.M.Machine.next g.M.Machine.answers begin
