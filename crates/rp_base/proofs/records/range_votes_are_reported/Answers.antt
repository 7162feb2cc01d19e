use Rattle.rp_base.proofs.ReportedVotes.{covered_votes, no_votes_elsewhere, votes_are_reported}
use Rattle.rp_base.proofs.records.range_votes_are_reported.Goals as goal

pub returns-clause-covered : goal.returns-clause-covered
returns-clause-covered c = covered_votes

pub returns-clause-elsewhere : goal.returns-clause-elsewhere
returns-clause-elsewhere c = no_votes_elsewhere

pub returns-clause-reported : goal.returns-clause-reported
returns-clause-reported c = votes_are_reported
