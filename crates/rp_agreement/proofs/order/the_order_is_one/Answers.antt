use Rattle.rp_agreement.proofs.Ordering.{one_order}
use Rattle.rp_agreement.proofs.order.the_order_is_one.Goals as goal

pub returns : goal.returns
returns c = λ nodes node sent sound. one_order sound
