-- By the walk over the events.
use Rattle.rp_agreement.proofs.PartPlaces.{part_has}
use Rattle.rp_agreement.proofs.LogKeeping.{history_in_log, applied_in_log}
use Rattle.rp_agreement.proofs.ranges.records_stay_in_the_log.Goals as goal

pub returns-clause-records : goal.returns-clause-records
returns-clause-records g c = λ s events w history x part here. history_in_log s events w history part (part_has w.nodes x part here)

pub returns-clause-applied : goal.returns-clause-applied
returns-clause-applied g c = λ s events w history x part here.
    applied_in_log part.records s.config.max_positions (history_in_log s events w history part (part_has w.nodes x part here))
