use Rattle.rp_agreement.proofs.Computing.{order_is}
use Rattle.rp_agreement.proofs.order.the_order_exists.Goals as goal

pub returns : goal.returns
returns c = order_is
