use Rattle.rp_agreement.proofs.Ordering.{decided_begins, all_decided_stays}
use Rattle.rp_agreement.proofs.order.the_order_grows.Goals as goal

pub returns : goal.returns
returns c = λ nodes sent later after sound all order longer is next.
    decided_begins sound order longer (all_decided_stays nodes sent later order all is.decided) next
