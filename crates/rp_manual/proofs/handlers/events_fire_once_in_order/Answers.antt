-- By computing.
use Rattle.std.proofs.Common.{refl}
use Rattle.rp_manual.proofs.Computing.{works}
use Rattle.rp_manual.proofs.handlers.events_fire_once_in_order.Goals as goal

pub returns : goal.returns
returns c = record {
  set = λ unread. record { answered = refl; left = refl };
  fire = λ unread. record { answered = refl; left = simp works };
  earlier_first = λ unread. record { answered = refl; left = simp works };
  not_yet = λ unread. record { answered = refl; left = refl };
}
