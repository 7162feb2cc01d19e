-- By the result of servicing, and by induction on the chain.
use Rattle.rp_entry.proofs.Chains.{one_end}
use Rattle.rp_entry.specs.Results.{serviced}
use Rattle.rp_entry.proofs.Results.{services_all}
use Rattle.rp_entry.proofs.laws.servicing_has_one_end.Goals as goal

pub returns : goal.returns
returns c = record {
  an_end = λ operations before. let left = serviced operations before.store before.queues in (left.0, (left.1, services_all operations before));
  no_other = λ operations before one other replied heard first second. one_end first second;
}
