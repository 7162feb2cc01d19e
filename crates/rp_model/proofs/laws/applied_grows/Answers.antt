-- By induction on the records.
use Rattle.rp_model.proofs.AppliedGrowing.{applied_more}
use Rattle.rp_model.proofs.laws.applied_grows.Goals as goal

pub returns : goal.returns
returns c = λ records more. applied_more records more
