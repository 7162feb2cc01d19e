-- By the cases of the request, and since an action has one end.
use Rattle.rp_entry.proofs.Results.{acts_acted}
use Rattle.rp_entry.proofs.laws.actions_are_their_results.Goals as goal

pub returns : goal.returns
returns c = λ operations before request result. acts_acted operations before request result
