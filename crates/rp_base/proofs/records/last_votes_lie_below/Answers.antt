use Rattle.rp_base.proofs.MoreRecords.{last_below, last_right}
use Rattle.rp_base.proofs.records.last_votes_lie_below.Goals as goal

pub returns-clause-below : goal.returns-clause-below
returns-clause-below c = last_below

pub returns-clause-right : goal.returns-clause-right
returns-clause-right c = last_right
