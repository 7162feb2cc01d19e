use Rattle.rp_agreement.proofs.Ordering.{applied_alike}
use Rattle.rp_agreement.proofs.order.applied_lists_are_alike.Goals as goal

pub returns : goal.returns
returns c = applied_alike
