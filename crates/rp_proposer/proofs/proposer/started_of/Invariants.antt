use Rattle.std.proofs.Common.{◌≡◌, max, drop}
use Rattle.rp_base.specs.Ballot.{number_of}
use Rattle.rp_base.specs.Records.{started_of}
use Rattle.rp_proposer.proofs.proposer.started_of.Given as goal

-- the greatest so far and that of the rest make that of all
abbrev pub invariant-loop-record : goal.invariant-loop-record
invariant-loop-record l = max (number_of l.started) (started_of (drop l.record-index l.records)) ≡ started_of l.records
